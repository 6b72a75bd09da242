-- What a caller's seats show to an event.
use Rattle.std.proofs.Common.{◌≡◌, ℕ, List, length, sym, ap, ◌∙◌, refl}
use Rattle.std.proofs.lemmas.List.FromFn.{length-map-range_with_len}
use Rattle.cod_board.specs.declared.kill.Kill.{Kill}
use Rattle.cod_board.specs.Seats.{kills_in}
use Rattle.cod_board.specs.Words.{known}
use Rattle.cod_chronicle.specs.Event.{Request, Setting}
use Rattle.cod_seg.specs.Seg.{Seg}
use Rattle.cod_segment.specs.declared.asking.Outcome.{Outcome}
use Rattle.cod_segment.specs.Events.{IsSettingOf, kills_at}
use Rattle.cod_segment.specs.Exact.{Turns}
use Rattle.cod_accounts.specs.Holding.{setting}
use Rattle.cod_pass.specs.Places.{ground_of}

pub kills_count : (n : ℕ) (seen : List (ℕ × Kill)) → length (kills_in n seen) ≡ n
kills_count n seen = length-map-range_with_len (λ node. known node seen) 0 n

kills_same : (n m : ℕ) (seen shown : List (ℕ × Kill)) → n ≡ m → seen ≡ shown → (x : ℕ) → kills_at (kills_in n seen) x ≡ kills_at (kills_in m shown) x
kills_same n m seen shown size same x = ap (λ (k : ℕ). kills_at (kills_in k seen) x) size ∙ ap (λ (l : List (ℕ × Kill)). kills_at (kills_in m l) x) same

-- the kills that a seat has seen before and after an event, where it is of a board of the segment's nodes
pub turns_by : (s u : Seg) (o : Outcome) (r : Request) (t after lent : ℕ) (seen shown last later : List (ℕ × Kill)) (words more : ℕ) → after ≡ lent → last ≡ later → shown ≡ seen
    → words ≡ s.site.nodes → more ≡ s.site.nodes
    → ((w : Setting) → IsSettingOf w s → ((x : ℕ) → w.known x ≡ kills_at (kills_in words shown) x) → ((x : ℕ) → w.seen x ≡ kills_at (kills_in more later) x) → Turns w r t lent o s u)
    → Turns (setting (ground_of s) (kills_in s.site.nodes seen) (kills_in s.site.nodes last)) r t after o s u
turns_by s u o r t after lent seen shown last later words more clock kills same all now turns =
    rw (clock, kills) (turns (setting (ground_of s) (kills_in s.site.nodes seen) (kills_in s.site.nodes later)) (record { site = refl; may = λ node is. is })
    (λ x. kills_same s.site.nodes words seen shown (sym all) (sym same) x) (λ x. kills_same s.site.nodes more later later (sym now) refl x))
