-- What the edits make of the lines' offsets, request 02: "0 for an added line. It survives strike, undo and settle, and their promises say so." Each law is of
-- what a public function promises (specs/Trial.antt, specs/Symbols.antt), wherever the edit is done; one that is refused changes nothing (`after`,
-- `counts_after`: specs/Changes.antt). proofs/Offsets.antt proves them. Assumes nothing.
use Rattle.std.specs.Prelude.{ℕ, ◌-◌, ◌≡◌, List, [], ◌∷◌, ◌++◌, map, Bool, cond, eqb, length, take, Some}
use Rattle.packing.specs.Padding.{zeros}
use Rattle.book.specs.Books.{Book, Line, add}
use Rattle.book.specs.Edits.{stands}
use Rattle.book.specs.Layout.{Buffers}
use Rattle.trial.specs.Changes.{to}
use Rattle.trial.specs.Trial.{add_asked, latest, settle_asked, strike_asked, undo_asked}
use Rattle.trial.specs.Symbols.{symbol_asked}

abbrev pub offsets : List Line → List ℕ
offsets ls = map (λ (x : Line). x.offset) ls

-- of those lines that stand, and of no others
unfoldable pub standing_offsets : List Line → List ℕ
standing_offsets [] = []
standing_offsets (x ∷ xs) = cond (stands x) (x.offset ∷ standing_offsets xs) (standing_offsets xs)

-- "0 for an added line", and the others keep theirs
abbrev pub AddOffsets : Type 0
AddOffsets =
    (b : Buffers) (w v : Book) (node section language : ℕ) (t : List ℕ) → add_asked b (Some w) node section language t ≡ to v
    → offsets v.lines ≡ offsets w.lines ++ 0 ∷ []

-- of `add_symbol` for each of its lines
abbrev pub SymbolOffsets : Type 0
SymbolOffsets =
    (b : Buffers) (w v : Book) (s : List ℕ) (bare : Bool) → symbol_asked b (Some w) s bare ≡ to v
    → offsets v.lines ≡ offsets w.lines ++ zeros (length v.lines - length w.lines)

-- "It survives strike": every line has its offset still
abbrev pub StrikeOffsets : Type 0
StrikeOffsets = (b : Buffers) (w v : Book) (i : ℕ) → strike_asked b (Some w) i ≡ to v → offsets v.lines ≡ offsets w.lines

-- "undo": where a strike is taken back every line has its offset still, and where an add is, every line but its own, which is the last
abbrev pub left_by_undo : Bool → List ℕ → List ℕ
left_by_undo of_add ks = cond of_add (take (length ks - 1) ks) ks

abbrev pub UndoOffsets : Type 0
UndoOffsets = (w v : Book) → undo_asked (Some w) ≡ to v → offsets v.lines ≡ left_by_undo (eqb (latest w.edits).what add) (offsets w.lines)

-- "and settle": the lines that stand keep theirs, in order
abbrev pub SettleOffsets : Type 0
SettleOffsets = (w v : Book) → settle_asked (Some w) ≡ to v → offsets v.lines ≡ standing_offsets w.lines

pub record OffsetsKept : Type 0 where
  pub added : AddOffsets
  pub symbols : SymbolOffsets
  pub struck : StrikeOffsets
  pub undone : UndoOffsets
  pub settled : SettleOffsets
