-- The exits of the functions that answer the version of a name, and what a callee asks. The Bool that is named x is whether the buffers hold a book, and the
-- code asked whether they do not; r is what the names were asked. Assumes nothing.
use Prim.Native.Nat.{ℕ, ◌≤◌}
use mathlib.Core.Path.{◌≡◌}
use mathlib.Core.List.{List}
use mathlib.Core.Bool.{Bool, true, not}
use Rattle.std.specs.Prelude.{Option, Some, None, Result, Ok, Err, ⊤}
use borrow.Author.Tests.{eq-eqb, ne_eqb}
use Rattle.numbers.specs.declared.Refusal.{Refusal}
use Rattle.numbers.specs.declared.Refusal.TheVariants as no
use Rattle.numbers.specs.Limits.{node_limit}
use Rattle.packing.specs.Tables.{packs, things}
use Rattle.book.specs.declared.Counts.{Counts}
use Rattle.book.specs.Books.{export, rust}
use Rattle.book.specs.Layout.{five, frame_of, line_form, node_form}
use Rattle.book.specs.View.{any_node, book_of, holds, view}
use Rattle.book.proofs.Asking.{Held, asked_none, held-book}
use Rattle.ranking.specs.Matching.{name_of}
use Rattle.ranking.specs.Names.{name_refusal}
use Rattle.ranking.specs.Walk.{deciding}
use Rattle.lookups.specs.declared.index.VersionIndex.{VersionIndex}
use Rattle.lookups.specs.Lookups.{indexed, long_wanted, version_among, version_asked, version_of, wanted_version}

module _ (c : Counts) (n m l p j raw demangled : List ℕ) (v : Option (List ℕ)) where
  pub version-no_book : (x : Bool) → x ≡ holds c (five n m l p j) → not x ≡ true
      → Err no.NoBook ≡ version_asked (view c (five n m l p j)) (name_of raw demangled) v
  unfolding version_asked
  version-no_book x e h = rw (asked_none c (five n m l p j) x e h)

  module _ (b : holds c (five n m l p j) ≡ true) where
    held : Held c (five n m l p j)
    held = held-book c (five n m l p j) b

    pub version-export : c.kind ≡ export → Err no.WrongKind ≡ version_asked (view c (five n m l p j)) (name_of raw demangled) v
    unfolding version_asked book_of
    version-export k = rw (held.viewed, eq-eqb _ _ k)

    module _ (k : c.kind ≡ export → ⊥) (long : Bool) (y : long ≡ long_wanted v) (r : Result ⊤ Refusal) (f : r ≡ name_refusal (name_of raw demangled) long) where
      pub version-no_name : (e : Refusal) → r ≡ Err e → Err e ≡ version_asked (view c (five n m l p j)) (name_of raw demangled) v
      unfolding version_asked book_of
      version-no_name e g = rw (held.viewed, ne_eqb _ _ k, ← y, ← f, g)

      module _ (x : ⊤) (g : r ≡ Ok x) where
        pub version-rust : c.kind ≡ rust → Ok None ≡ version_asked (view c (five n m l p j)) (name_of raw demangled) v
        unfolding version_asked version_of book_of
        version-rust q = rw (held.viewed, ne_eqb _ _ k, ← y, ← f, g, eq-eqb _ _ q)

        module _ (q : c.kind ≡ rust → ⊥) where
          pub version_wanted : (t : List ℕ) → v ≡ Some t → (a : Result VersionIndex Refusal) → a ≡ wanted_version (things node_form c.nodes n m) t
              → indexed a ≡ version_asked (view c (five n m l p j)) (name_of raw demangled) v
          unfolding version_asked version_of book_of
          version_wanted t u a w = rw (held.viewed, ne_eqb _ _ k, ← y, ← f, g, ne_eqb _ _ q, u, w)

          pub version-decided : v ≡ None → (a : Option VersionIndex)
              → a ≡ version_among (frame_of c) (name_of raw demangled) (things line_form c.lines l p)
              → Ok a ≡ version_asked (view c (five n m l p j)) (name_of raw demangled) v
          unfolding version_asked version_of deciding book_of
          version-decided t a u = rw (held.viewed, ne_eqb _ _ k, ← y, ← f, g, ne_eqb _ _ q, t, u, held.count)

-- what `wanted_version` asks
pub asks-wanted : (c : Counts) (n m l p j : List ℕ) → holds c (five n m l p j) ≡ true
    → (packs node_form any_node c.nodes c.names n m ≡ true) × (c.nodes ≤ node_limit)
asks-wanted c n m l p j b = let h = held-book c (five n m l p j) b in (h.nodes, h.few)
