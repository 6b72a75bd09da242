-- Entries that stand by their stamps are in order.
use Rattle.std.proofs.Common.{◌≡◌, ◌∙◌, ap, refl, ℕ, List, [], ◌∷◌, ◌++◌, map, arith}
use Rattle.std.specs.List.{flat_map}
use Rattle.std.proofs.lemmas.List.{append-nil}
use Rattle.cod_chronicle.specs.declared.entry.Entry.{Entry}
use Rattle.cod_chronicle.specs.Said.{stamp_of, RisesFrom, StampsRise}
use Rattle.cod_chronicle.specs.Order.{place, put, by_stamp, order}
use Rattle.cod_chronicle.proofs.Orders.{put_low}
use Rattle.cod_chronicle.proofs.Merging.{rises_above}
use Rattle.cod_text.specs.Printed.{line_text}
use Rattle.cod_text.specs.Alone.{IsPrintedAlone}

rises_behind : (t : ℕ) (h : List Entry) → RisesFrom t h → StampsRise h
rises_behind t [] r = tt
rises_behind t (e ∷ h) r = r.1

pub by_stamp_kept : (s : ℕ) (h : List Entry) → StampsRise h → by_stamp (map (λ e. place s e) h) ≡ map (λ e. place s e) h
by_stamp_kept s [] r = refl
by_stamp_kept s (e ∷ h) r =
    ap (put (place s e)) (by_stamp_kept s h (rises_behind (stamp_of e) h r))
    ∙ put_low (place s e) (map (λ e. place s e) h) (rises_above (stamp_of e) (stamp_of e) s h (omega arith) r)

pub order_alone : (h : List Entry) → StampsRise h → order (h ∷ []) ≡ map (λ e. place 0 e) h
order_alone h r = ap by_stamp (append-nil (map (λ e. place 0 e) h)) ∙ by_stamp_kept 0 h r

pub flat_map-map : {X Y : Type 0} (f : Y → List ℕ) (g : X → Y) (xs : List X) → flat_map f (map g xs) ≡ flat_map (λ x. f (g x)) xs
flat_map-map f g [] = refl
flat_map-map f g (x ∷ xs) = ap (λ (l : List ℕ). f (g x) ++ l) (flat_map-map f g xs)

pub printed_alone : IsPrintedAlone
printed_alone x h r = ap (flat_map (λ p. line_text x p)) (order_alone h r) ∙ flat_map-map (λ p. line_text x p) (λ e. place 0 e) h
