-- What refuses a name that is looked up (specs/Names.antt), and what a name that is not refused is. Assumes nothing.
use Prim.Native.Nat.{ℕ, ◌≤◌, ◌<◌}
use mathlib.Core.Path.{◌≡◌, refl}
use mathlib.Core.Bool.{Bool, true, false, cond, ◌||◌}
use mathlib.Core.Logic.{◌⊎◌, inl, inr}
use mathlib.Core.List.{List}
use lib.ListN.{length}
use borrow.Author.Tests.{le-ltb, lt-ltb, ltb-false}
use Rattle.numbers.specs.Limits.{name_limit, over, raw_name_limit}
use Rattle.std.specs.Prelude.{Result, Ok, Err, ⊤}
use Rattle.numbers.specs.declared.Refusal.{Refusal}
use Rattle.numbers.specs.declared.Refusal.TheVariants as no
use Rattle.lists.proofs.Tests.{neither}
use Rattle.utf8.specs.Utf8.{utf8}
use Rattle.ranking.specs.Matching.{Name, name_of}
use Rattle.ranking.specs.Names.{bad_name, long_name, name_refusal}

-- ---- the exits of the function
either_long : (a b l : Bool) → (a ≡ true) ⊎ ((b ≡ true) ⊎ (l ≡ true)) → (a || b) || l ≡ true
either_long true b l e = refl
either_long false true l e = refl
either_long false false true e = refl
either_long false false false (inl e) = e
either_long false false false (inr (inl e)) = e
either_long false false false (inr (inr e)) = e

module _ (raw demangled : List ℕ) (long : Bool) where
  abbrev TooLong : Type 0
  TooLong =
      (raw_name_limit < length raw)
      ⊎ (((length raw ≤ raw_name_limit) × (name_limit < length demangled))
      ⊎ ((length raw ≤ raw_name_limit) × (length demangled ≤ name_limit) × (long ≡ true)))

  pub too_long : TooLong → Err no.TooLong ≡ name_refusal (name_of raw demangled) long
  unfolding name_refusal long_name
  too_long h = rw (either_long (over raw_name_limit raw) (over name_limit demangled) long (told h))
    where
      told : TooLong → (over raw_name_limit raw ≡ true) ⊎ ((over name_limit demangled ≡ true) ⊎ (long ≡ true))
      told (inl k) = inl (lt-ltb _ _ k)
      told (inr (inl k)) = inr (inl (lt-ltb _ _ k.1))
      told (inr (inr k)) = inr (inr k.2)

  module _ (g : length raw ≤ raw_name_limit) (h : length demangled ≤ name_limit) (e : long ≡ false) where
    pub raw_bad : false ≡ utf8 raw → Err no.NameNotUtf8 ≡ name_refusal (name_of raw demangled) long
    unfolding name_refusal long_name bad_name
    raw_bad k = rw (le-ltb _ _ g, le-ltb _ _ h, e, ← k)

    pub demangled_bad : true ≡ utf8 raw → false ≡ utf8 demangled → Err no.NameNotUtf8 ≡ name_refusal (name_of raw demangled) long
    unfolding name_refusal long_name bad_name
    demangled_bad k w = rw (le-ltb _ _ g, le-ltb _ _ h, e, ← k, ← w)

    pub names_good : true ≡ utf8 raw → true ≡ utf8 demangled → Ok tt ≡ name_refusal (name_of raw demangled) long
    unfolding name_refusal long_name bad_name
    names_good k w = rw (le-ltb _ _ g, le-ltb _ _ h, e, ← k, ← w)

-- ---- names that are not refused are short
pub record Short (n : Name) : Type 0 where
  pub raw : length n.raw ≤ raw_name_limit
  pub demangled : length n.demangled ≤ name_limit

not_over : (a : Bool) (r : Result ⊤ Refusal) (x : ⊤) → cond a (Err no.TooLong) r ≡ Ok x → a ≡ false
not_over true r x e = cc
not_over false r x e = refl

pub short-names : (n : Name) (long : Bool) (x : ⊤) → name_refusal n long ≡ Ok x → Short n
unfolding name_refusal long_name
short-names n long x e =
    let a = neither (long_name n) long (not_over (long_name n || long) _ x e) in
    let b = neither (over raw_name_limit n.raw) (over name_limit n.demangled) a.0 in
    record { raw = ltb-false _ _ b.0; demangled = ltb-false _ _ b.1 }
