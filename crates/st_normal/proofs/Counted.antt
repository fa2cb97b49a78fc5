-- Counted cells name nothing.
use Rattle.std.proofs.Common.{◌≡◌, ℕ, zero, suc, List, refl}
use Rattle.std.specs.List.{list_any}
use Rattle.st_marks.specs.Embedding.{tells}
use Rattle.st_normal.specs.inside.Links.{stands_before, stands_after}
use Rattle.st_marks.specs.Row.{CellMark, counted_cells}
use Rattle.st_normal.specs.Rules.{found_in, incoming_nodes, hole_owners, fill_owners}
use Rattle.st_marks.specs.Listings.{cells_in, cells_made}

pub found_counted : (k : ℕ) (ms : List CellMark) → found_in (counted_cells k ms) ≡ found_in ms
found_counted zero ms = refl
found_counted (suc k) ms = found_counted k ms

pub incoming_counted : (k : ℕ) (ms : List CellMark) → incoming_nodes (counted_cells k ms) ≡ incoming_nodes ms
incoming_counted zero ms = refl
incoming_counted (suc k) ms = incoming_counted k ms

pub holes_counted : (k : ℕ) (ms : List CellMark) → hole_owners (counted_cells k ms) ≡ hole_owners ms
holes_counted zero ms = refl
holes_counted (suc k) ms = holes_counted k ms

pub fills_counted : (k : ℕ) (ms : List CellMark) → fill_owners (counted_cells k ms) ≡ fill_owners ms
fills_counted zero ms = refl
fills_counted (suc k) ms = fills_counted k ms

pub cells_counted : (k : ℕ) (ms : List CellMark) → cells_in (counted_cells k ms) ≡ cells_in ms
cells_counted zero ms = refl
cells_counted (suc k) ms = cells_counted k ms

pub made_counted : (k : ℕ) (ms : List CellMark) → cells_made (counted_cells k ms) ≡ cells_made ms
made_counted zero ms = refl
made_counted (suc k) ms = made_counted k ms

pub told_counted : (k : ℕ) (ms : List CellMark) → list_any tells (counted_cells k ms) ≡ list_any tells ms
told_counted zero ms = refl
told_counted (suc k) ms = told_counted k ms

pub before_counted : (k : ℕ) (ms : List CellMark) → stands_before (counted_cells k ms) ≡ stands_before ms
before_counted zero ms = refl
before_counted (suc k) ms = before_counted k ms

pub after_counted : (k : ℕ) (ms : List CellMark) → stands_after (counted_cells k ms) ≡ stands_after ms
after_counted zero ms = refl
after_counted (suc k) ms = after_counted k ms
