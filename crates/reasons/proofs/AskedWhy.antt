-- The exits of the functions that say why, and what a callee asks. The Bool that is named x is whether the buffers hold a book, and the code asked whether
-- they do not; y says whether a version is wanted of an export list. Assumes nothing.
use Prim.Native.Nat.{ℕ, ◌≤◌}
use mathlib.Core.Path.{◌≡◌}
use mathlib.Core.List.{List}
use mathlib.Core.Bool.{Bool, true, false, not}
use borrow.Author.Tests.{eq-eqb, ne_eqb}
use lib.ListN.{length}
use Rattle.numbers.specs.Limits.{line_limit, name_limit, node_limit}
use Rattle.std.specs.Prelude.{Option, Some, None, Result, Ok, Err, ⊤}
use Rattle.numbers.specs.declared.Refusal.{Refusal}
use Rattle.numbers.specs.declared.Refusal.TheVariants as no
use Rattle.lists.proofs.Tests.{both}
use Rattle.packing.specs.Tables.{packs, things}
use Rattle.book.specs.declared.Counts.{Counts}
use Rattle.book.specs.Books.{rust}
use Rattle.book.specs.Layout.{Buffers, five, frame_of, line_form, node_form}
use Rattle.book.specs.Sanity.{line_ok, sane}
use Rattle.book.specs.View.{book_of, holds, laid, view}
use Rattle.book.proofs.Asking.{Held, asked_none, held-book}
use Rattle.book.proofs.Views.{laid-packs}
use Rattle.ranking.specs.Matching.{name_of}
use Rattle.ranking.specs.Names.{name_refusal}
use Rattle.ranking.specs.Walk.{deciding, deciding_among}
use Rattle.lookups.specs.declared.index.VersionIndex.{VersionIndex}
use Rattle.lookups.specs.Lookups.{long_wanted, wanted_version}
use Rattle.lookups.proofs.Asked.{asks_decider}
use Rattle.reasons.specs.declared.Why.{Why}
use Rattle.reasons.specs.Why.{barred, is_wanted, line_told, rust_deciding, wanted_told, why_asked, why_of}

few_lines : (c : Counts) (b : Buffers) → holds c b ≡ true → c.lines ≤ line_limit
unfolding holds
few_lines c b e = (laid-packs c b (both (laid c b) (sane (book_of c b)) e).0).limits.lines

-- what the search in a book of the Rust kind asks
pub asks-rust : (c : Counts) (n m l p j : List ℕ) → holds c (five n m l p j) ≡ true
    → (packs line_form (line_ok (frame_of c)) c.lines c.pool l p ≡ true) × (c.lines ≤ line_limit)
asks-rust c n m l p j b = ((held-book c (five n m l p j) b).lines, few_lines c (five n m l p j) b)

module _ (c : Counts) (n m l p j raw demangled : List ℕ) (v : Option (List ℕ)) where
  pub why-no_book : (x : Bool) → x ≡ holds c (five n m l p j) → not x ≡ true
      → Err no.NoBook ≡ why_asked (view c (five n m l p j)) (name_of raw demangled) v
  unfolding why_asked
  why-no_book x e h = rw (asked_none c (five n m l p j) x e h)

  module _ (b : holds c (five n m l p j) ≡ true) where
    held : Held c (five n m l p j)
    held = held-book c (five n m l p j) b

    module _ (y : Bool) (e : y ≡ barred c.kind (is_wanted v)) where
      pub why-barred : y ≡ true → Err no.WrongKind ≡ why_asked (view c (five n m l p j)) (name_of raw demangled) v
      unfolding why_asked book_of
      why-barred t = rw (held.viewed, ← e, t)

      -- r is what the names were asked
      module _ (t : y ≡ false) (long : Bool) (u : long ≡ long_wanted v) (r : Result ⊤ Refusal) (f : r ≡ name_refusal (name_of raw demangled) long) where
        pub why-no_name : (z : Refusal) → r ≡ Err z → Err z ≡ why_asked (view c (five n m l p j)) (name_of raw demangled) v
        unfolding why_asked book_of
        why-no_name z g = rw (held.viewed, ← e, t, ← u, ← f, g)

        module _ (x : ⊤) (g : r ≡ Ok x) where
          -- what the search by the ranking asks
          pub asks-ranked : (packs line_form (line_ok (frame_of c)) c.lines c.pool l p ≡ true) × (c.nodes ≤ node_limit)
              × (length raw ≤ name_limit) × (length demangled ≤ name_limit) × (c.lines ≤ line_limit)
          asks-ranked =
              let a = asks_decider c n m l p j raw demangled b long r f x g in
              (a.0, a.1, a.2, a.3, few_lines c (five n m l p j) b)

          pub why-rust : c.kind ≡ rust → (a : Why) → a ≡ line_told (things line_form c.lines l p) (rust_deciding raw (things line_form c.lines l p))
              → Ok a ≡ why_asked (view c (five n m l p j)) (name_of raw demangled) v
          unfolding why_asked why_of book_of
          why-rust q a z = rw (held.viewed, ← e, t, ← u, ← f, g, eq-eqb _ _ q, z)

          module _ (q : c.kind ≡ rust → ⊥) where
            pub why-wanted : (t : List ℕ) → v ≡ Some t → (w : Result VersionIndex Refusal) → w ≡ wanted_version (things node_form c.nodes n m) t
                → wanted_told w ≡ why_asked (view c (five n m l p j)) (name_of raw demangled) v
            unfolding why_asked why_of book_of
            why-wanted k h w z = rw (held.viewed, ← e, t, ← u, ← f, g, ne_eqb _ _ q, h, z)

            pub why-ranked : v ≡ None → (a : Why)
                → a ≡ line_told (things line_form c.lines l p) (deciding_among (frame_of c) (name_of raw demangled) (things line_form c.lines l p))
                → Ok a ≡ why_asked (view c (five n m l p j)) (name_of raw demangled) v
            unfolding why_asked why_of deciding book_of
            why-ranked k a z = rw (held.viewed, ← e, t, ← u, ← f, g, ne_eqb _ _ q, k, held.count, z)
