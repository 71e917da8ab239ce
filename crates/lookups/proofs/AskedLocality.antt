-- The exits of the functions that answer the locality of a name, and what a callee asks. Assumes nothing.
use Prim.Native.Nat.{ℕ}
use mathlib.Core.Path.{◌≡◌, ap, ◌∙◌}
use mathlib.Core.List.{List}
use mathlib.Core.Bool.{Bool, true, false, not}
use Rattle.std.specs.Prelude.{Option, Some, Result, Ok, Err, ⊤, is_some}
use borrow.Author.Tests.{eq-eqb, ne_eqb}
use Rattle.numbers.specs.declared.Refusal.{Refusal}
use Rattle.numbers.specs.declared.Refusal.TheVariants as no
use Rattle.packing.specs.Tables.{packs, things}
use Rattle.book.specs.declared.Counts.{Counts}
use Rattle.book.specs.Books.{export, rust}
use Rattle.book.specs.Layout.{five, frame_of, line_form}
use Rattle.book.specs.Sanity.{line_ok}
use Rattle.book.specs.View.{book_of, holds, view}
use Rattle.book.proofs.Asking.{Held, asked_none, held-book}
use Rattle.ranking.specs.Matching.{name_of}
use Rattle.ranking.specs.Names.{name_refusal}
use Rattle.ranking.specs.Walk.{deciding, first_line}
use Rattle.lookups.specs.declared.answers.Locality.{Locality}
use Rattle.lookups.specs.declared.answers.Locality.TheVariants as locality
use Rattle.lookups.specs.Lookups.{listed, listed_as, locality_among, locality_asked, locality_of}
use Rattle.lookups.proofs.Firsts.{first_any}

module _ (c : Counts) (n m l p j raw demangled : List ℕ) where
  pub locality-no_book : (x : Bool) → x ≡ holds c (five n m l p j) → not x ≡ true
      → Err no.NoBook ≡ locality_asked (view c (five n m l p j)) (name_of raw demangled)
  unfolding locality_asked
  locality-no_book x e h = rw (asked_none c (five n m l p j) x e h)

  module _ (b : holds c (five n m l p j) ≡ true) where
    held : Held c (five n m l p j)
    held = held-book c (five n m l p j) b

    pub locality-export : c.kind ≡ export → Err no.WrongKind ≡ locality_asked (view c (five n m l p j)) (name_of raw demangled)
    unfolding locality_asked book_of
    locality-export k = rw (held.viewed, eq-eqb _ _ k)

    -- what `first_listed` asks
    pub asks-listed : packs line_form (line_ok (frame_of c)) c.lines c.pool l p ≡ true
    asks-listed = held.lines

    module _ (k : c.kind ≡ export → ⊥) (r : Result ⊤ Refusal) (f : r ≡ name_refusal (name_of raw demangled) false) where
      pub locality-no_name : (e : Refusal) → r ≡ Err e → Err e ≡ locality_asked (view c (five n m l p j)) (name_of raw demangled)
      unfolding locality_asked book_of
      locality-no_name e g = rw (held.viewed, ne_eqb _ _ k, ← f, g)

      module _ (x : ⊤) (g : r ≡ Ok x) where
        -- o is the first listed line, and s whether there is one
        module _ (q : c.kind ≡ rust) (o : Option ℕ) (u : o ≡ first_line (listed_as raw) 0 (things line_form c.lines l p)) (s : Bool) (v : s ≡ is_some o) where
          told : s ≡ listed (things line_form c.lines l p) raw
          unfolding listed
          told = v ∙ ap is_some u ∙ first_any (listed_as raw) 0 (things line_form c.lines l p)

          pub rust-listed : s ≡ true → Ok (Some locality.Global) ≡ locality_asked (view c (five n m l p j)) (name_of raw demangled)
          unfolding locality_asked locality_of book_of
          rust-listed t = rw (held.viewed, ne_eqb _ _ k, ← f, g, eq-eqb _ _ q, ← told, t)

          pub rust-unlisted : s ≡ false → Ok (Some locality.Local) ≡ locality_asked (view c (five n m l p j)) (name_of raw demangled)
          unfolding locality_asked locality_of book_of
          rust-unlisted t = rw (held.viewed, ne_eqb _ _ k, ← f, g, eq-eqb _ _ q, ← told, t)

        pub locality-decided : (c.kind ≡ rust → ⊥) → (a : Option Locality)
            → a ≡ locality_among (frame_of c) (name_of raw demangled) (things line_form c.lines l p)
            → Ok a ≡ locality_asked (view c (five n m l p j)) (name_of raw demangled)
        unfolding locality_asked locality_of deciding book_of
        locality-decided q a u = rw (held.viewed, ne_eqb _ _ k, ← f, g, ne_eqb _ _ q, u, held.count)
