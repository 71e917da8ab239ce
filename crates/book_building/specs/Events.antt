-- The events that a text can have. Assumes nothing.
use Rattle.std.specs.Prelude.{ℕ, ◌+◌, ◌-◌, ◌≤◌, List, length}
use Rattle.numbers.specs.Marks.{cxx, local}
use Rattle.reading_cursors.specs.declared.Event.{Event}
use Rattle.reading_cursors.specs.declared.Event.TheVariants.{Node, Body, Section, Extern, Closed, Line, Parent}

-- ---- an event whose parts lie in the text s, with a section and a language of the grammar's. A line's token starts at a byte of s, or at 0 where s has none
abbrev pub Lies : List ℕ → Event → Type 0
Lies s (Node p n) = p + n ≤ length s
Lies s Body = Unit {0}
Lies s (Section section) = Unit {0}
Lies s (Extern section language) = Unit {0}
Lies s Closed = Unit {0}
Lies s (Line section language p n) = (section ≤ local) × (language ≤ cxx) × (p + n ≤ length s) × (p ≤ length s - 1)
Lies s (Parent p n) = p + n ≤ length s
