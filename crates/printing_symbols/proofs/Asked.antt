-- A symbol's line, asked of a book, at its first `@`. Assumes nothing.
use Prim.Native.Nat.{ℕ, ◌+◌, ◌-◌, ◌≤◌}
use mathlib.Core.Path.{◌≡◌, sym, ◌∙◌}
use mathlib.Core.List.{List}
use native.Mathlib.Omega.{arith}
use mir.Syntax.{w64}
use mir.Val.{Fits}
use lib.ListN.{length, take, drop, length-drop, length-take}
use lib.Seq.{length-take-le, take_all}
use Rattle.std.specs.Prelude.{Option, Some, None}
use Rattle.linker_script.specs.Finding.{first_from, is}
use Rattle.linker_script.proofs.Searches.{first_within}
use Rattle.book.specs.Books.{Book}
use Rattle.ranking.specs.Matching.{name_of}
use Rattle.lookups.specs.Lookups.{LocalityAnswer, VersionAnswer, locality_asked, version_asked}
use Rattle.input.specs.Splitting.{at_sign, name_part, wanted_part}
use Rattle.printing.specs.Printing.{Begins}
use Rattle.printing_symbols.specs.Lines.{asked_line, symbol_answered, symbol_line}

-- ---- a symbol's line
pub asked-put : (d name : List ℕ) (w : Option Book) (wanted : Option (List ℕ)) (v : VersionAnswer) (s : LocalityAnswer) (l : List ℕ) (r : ℕ)
    → v ≡ version_asked w (name_of name name) wanted → s ≡ locality_asked w (name_of name name) → Begins d (symbol_line name v s) l r
    → Begins d (asked_line w name wanted) l r
unfolding asked_line
asked-put d name w wanted v s l r e f p = rw (← e, ← f) p

-- at its first `@`
module _ (line d : List ℕ) (x : Option ℕ) (e : x ≡ first_from (is at_sign) line 0) where
  pub plain-put : (w : Option Book) (l : List ℕ) (r : ℕ) → x ≡ None → Begins d (asked_line w line None) l r → Begins d (symbol_answered w line) l r
  unfolding symbol_answered name_part wanted_part
  plain-put w l r f p = rw (← e, f) p

  module _ (p : ℕ) (f : x ≡ Some p) where
    at_within : p + 1 ≤ length line
    at_within = omega (arith, (first_within (sym e ∙ f)).within)

    pub version-fits : Fits w64 (length line) → Fits w64 (p + 1)
    version-fits n = omega (arith, at_within)

    pub version-starts : p + 1 ≤ length line
    version-starts = at_within

    pub name-count : p ≡ length (take p line)
    name-count = sym (length-take-le p line (omega (arith, at_within)))

    pub part_room : length line + 48 ≤ length d → length (take p line) + 48 ≤ length d
    part_room h = omega (arith, length-take p line)

    pub split-put : (w : Option Book) (l : List ℕ) (r : ℕ)
        → Begins d (asked_line w (take p line) (Some (take (length line - (p + 1)) (drop (p + 1) line)))) l r → Begins d (symbol_answered w line) l r
    unfolding symbol_answered name_part wanted_part
    split-put w l r q = rw (← e, f) (rw (take_all (length line - (p + 1)) (drop (p + 1) line) (omega (arith, length-drop (p + 1) line))) at q)
