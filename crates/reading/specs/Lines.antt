-- The tokens of the lines that a reading gives, and that they stand in the text one behind the other. proofs/Lines.antt proves it. Assumes nothing.
use Rattle.std.specs.Prelude.{ℕ, ◌+◌, ◌<◌, ◌≤◌, ◌≡◌, List, [], ◌∷◌, false, length}
use Rattle.reading_cursors.specs.declared.Event.{Event}
use Rattle.reading_cursors.specs.declared.Event.TheVariants.{Node, Body, Section, Extern, Closed, Line, Parent}
use Rattle.numbers.specs.declared.Edition.{Edition}
use Rattle.reading_cursors.specs.declared.places.Place.{Place}
use Rattle.reading_cursors.specs.Places.{of_symbol}
use Rattle.reading.specs.Events.{reading}

-- a line's token: the section and language that it is read in, where it starts in the text, and how many bytes it has without its trailing blanks
pub record Token : Type 0 where
  pub section : ℕ
  pub language : ℕ
  pub place : ℕ
  pub size : ℕ

unfoldable pub tokens : List Event → List Token
tokens [] = []
tokens (Node p n ∷ es) = tokens es
tokens (Body ∷ es) = tokens es
tokens (Section section ∷ es) = tokens es
tokens (Extern section language ∷ es) = tokens es
tokens (Closed ∷ es) = tokens es
tokens (Line section language p n ∷ es) = record { section = section; language = language; place = p; size = n } ∷ tokens es
tokens (Parent p n ∷ es) = tokens es

-- tokens of the text s from the place p on: each starts at a byte of it, and no later one starts before the place q behind it
pub data InOrder (s : List ℕ) : ℕ → List Token → Type 0 where
  no_more : {p : ℕ} → InOrder s p []
  one_more : {p q : ℕ} {k : Token} {ks : List Token} → p ≤ k.place → k.place < q → k.place + k.size ≤ q → q ≤ length s → InOrder s q ks
      → InOrder s p (k ∷ ks)

-- those of a script and of an export list are so; a text of `add_symbol` may be one token without a byte
abbrev pub TokensInOrder : Type 0
TokensInOrder = (edition : Edition) (place : Place) (s : List ℕ) → of_symbol place ≡ false → InOrder s 0 (tokens (reading edition place s).events)
