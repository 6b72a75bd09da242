mod Counting
mod Showing
