-- A symbol's line t, taken apart: the symbol before its TAB, the raw name before that one's `@`, the demangled name, and the version that is wanted.
-- Assumes nothing.
use Prim.Native.Nat.{ℕ, ◌+◌, ◌≤◌}
use mathlib.Core.Path.{◌≡◌, refl, sym, ap, ◌∙◌}
use mathlib.Core.List.{List}
use mathlib.Core.Bool.{Bool, true, false, cond}
use Rattle.std.specs.Prelude.{Option, Some, None}
use native.Mathlib.Omega.{arith}
use lib.Dec.{eqb, ltb}
use lib.ListN.{length, drop}
use Rattle.numbers.specs.Signs.{tab}
use Rattle.linker_script.specs.Finding.{first_from, is}
use Rattle.book.specs.declared.Counts.{Counts}
use Rattle.book.specs.Books.{Book, export}
use Rattle.book.specs.Layout.{Buffers}
use Rattle.book.specs.View.{book_of, holds, view}
use Rattle.book.proofs.Asking.{held-book}
use Rattle.ranking.specs.Matching.{name_of}
use Rattle.lookups.specs.Lookups.{wanted_of}
use Rattle.input.specs.Splitting.{at_sign, demangled_part, name_part, part_before, symbol_part, wanted_part}
use Rattle.input.proofs.Halves.{demangled_is, part-short, wanted_is}
use Rattle.printing.specs.Printing.{Begins}
use Rattle.printing_why.specs.Splits.{asked_name, asked_version, raw_name, version_for}
use Rattle.printing_why.specs.Whys.{asked_why, why_answered}

module _ (t symbol : List ℕ) (a : symbol ≡ part_before t (first_from (is tab) t 0)) where
  symbol_is : symbol ≡ symbol_part t
  unfolding symbol_part
  symbol_is = a

  module _ (raw : List ℕ) (b : raw ≡ part_before symbol (first_from (is at_sign) symbol 0)) where
    pub raw_is : raw ≡ raw_name t
    unfolding name_part
    raw_is = b ∙ ap name_part symbol_is

    pub raw-short : length raw ≤ length t
    raw-short = omega (arith, ap length a, ap length b, part-short t tab, part-short symbol at_sign)

    -- the version that is wanted
    version_is : asked_version t ≡ cond (ltb (length raw) (length symbol)) (Some (drop (length raw + 1) symbol)) None
    unfolding wanted_part
    version_is = ap wanted_part (sym symbol_is) ∙ (wanted_is symbol at_sign ∙ rw (← b))

    -- as the code has it: whether the name is not all of the symbol, and what stands behind it
    pub version_wanted : (v : List ℕ) → v ≡ drop (length raw + 1) symbol → wanted_of (ltb (length raw) (length symbol)) v ≡ asked_version t
    version_wanted v e = rw (e, version_is)

    pub version-told : (c : Counts) (b : Buffers) → holds c b ≡ true
        → (has : Bool) → has ≡ cond (eqb c.kind export) false (ltb (length raw) (length symbol))
        → (v : List ℕ) → v ≡ drop (length raw + 1) symbol → wanted_of has v ≡ version_for (view c b) t
    unfolding book_of
    version-told c b h has d v e = rw ((held-book c b h).viewed, d, e, version_is) (go (eqb c.kind export))
      where
        go : (x : Bool) → cond (cond x false (ltb (length raw) (length symbol))) (Some (drop (length raw + 1) symbol)) None
            ≡ cond x None (cond (ltb (length raw) (length symbol)) (Some (drop (length raw + 1) symbol)) None)
        go true = refl
        go false = refl

  pub demangled-told : (raw : List ℕ) → raw ≡ raw_name t → (demangled : List ℕ)
      → demangled ≡ cond (ltb (length symbol) (length t)) (drop (length symbol + 1) t) raw → demangled ≡ demangled_part t
  unfolding demangled_part
  demangled-told raw f demangled c = c ∙ rw (f, a) (sym (demangled_is t tab (raw_name t)))

-- ---- what is answered
pub split-put : (d s t : List ℕ) (w : Option Book) {raw demangled : List ℕ} {v : Option (List ℕ)} {l : List ℕ} {n : ℕ}
    → raw ≡ raw_name t → demangled ≡ demangled_part t → v ≡ version_for w t
    → Begins d (asked_why s w (name_of raw demangled) v) l n → Begins d (why_answered s w t) l n
unfolding why_answered asked_name
split-put d s t w e f g p = rw (← e, ← f, ← g) p
