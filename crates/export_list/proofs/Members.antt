-- Whether a name is in an export list (specs/Membership.antt): some line matches exactly when one decides, and each exit of the function that asks. The Bool
-- that is named x is whether the buffers hold a book, and the code asked whether they do not. Assumes nothing.
use Prim.Native.Nat.{ℕ, zero, suc, ◌≤◌, ◌<◌}
use mathlib.Core.Path.{◌≡◌, refl, sym, ◌∙◌}
use mathlib.Core.List.{List, [], ◌∷◌}
use mathlib.Core.Bool.{Bool, true, false, not, or-true}
use native.Mathlib.Omega.{arith}
use borrow.Author.Tests.{eq-eqb, ne_eqb}
use lib.ListN.{length, get_or}
use Rattle.numbers.specs.Limits.{name_limit, node_limit}
use Rattle.std.specs.Prelude.{Option, Some, None, Result, Ok, Err, ⊤, is_some}
use Rattle.numbers.specs.declared.Refusal.{Refusal}
use Rattle.numbers.specs.declared.Refusal.TheVariants as no
use Rattle.lists.specs.Each.{any, every}
use Rattle.packing.specs.Tables.{packs, things}
use Rattle.book.specs.declared.Counts.{Counts}
use Rattle.book.specs.declared.Frame.{Frame}
use Rattle.book.specs.Books.{Line, edition_of, export, no_line}
use Rattle.book.specs.Layout.{five, frame_of, line_form}
use Rattle.book.specs.Sanity.{in_range, line_ok}
use Rattle.book.specs.View.{book_of, holds, view}
use Rattle.book.proofs.LineRows.{lines_in-range, lines_packed}
use Rattle.book.proofs.Asking.{Held, asked_none, asked-held}
use Rattle.ranking.specs.Matching.{line_matches, name_of}
use Rattle.ranking.specs.Names.{name_refusal}
use Rattle.ranking.specs.Walk.{deciding_among}
use Rattle.ranking.proofs.Deciders.{walk_decides, walk-nothing}
use Rattle.ranking.proofs.NameTests.{short-names}
use Rattle.export_list.specs.Membership.{member_of, contains_asked}

-- ---- some line matches
module _ (m : Line → Bool) where
  pub match_none : (ls : List Line) → ((j : ℕ) → j < length ls → m (get_or ls j no_line) ≡ false) → any m ls ≡ false
  unfolding any
  match_none [] f = refl
  match_none (x ∷ ls) f = rw (f 0 (omega arith)) (match_none ls (λ j h. f (suc j) (omega arith)))

  pub match_at : (ls : List Line) (i : ℕ) → i < length ls → m (get_or ls i no_line) ≡ true → any m ls ≡ true
  unfolding any
  match_at [] i h e = absurd (omega arith)
  match_at (x ∷ ls) zero h e = rw e
  match_at (x ∷ ls) (suc i) h e = rw (match_at ls i (omega arith) e, or-true)

-- ---- the exits of the question
module _ (c : Counts) (n m l p j raw demangled : List ℕ) (x : Bool) (e : x ≡ holds c (five n m l p j)) where
  pub list-no_book : not x ≡ true → Err no.NoBook ≡ contains_asked (view c (five n m l p j)) (name_of raw demangled)
  unfolding contains_asked
  list-no_book h = rw (asked_none c (five n m l p j) x e h)

  module _ (h : not x ≡ false) where
    held : Held c (five n m l p j)
    held = asked-held c (five n m l p j) x e h

    pub list_other_kind : (c.kind ≡ export → ⊥) → Err no.WrongKind ≡ contains_asked (view c (five n m l p j)) (name_of raw demangled)
    unfolding contains_asked book_of
    list_other_kind k = rw (held.viewed, ne_eqb _ _ k)

    -- r is what the names were asked
    module _ (k : c.kind ≡ export) (r : Result ⊤ Refusal) (f : r ≡ name_refusal (name_of raw demangled) false) where
      pub list-no_name : (z : Refusal) → r ≡ Err z → Err z ≡ contains_asked (view c (five n m l p j)) (name_of raw demangled)
      unfolding contains_asked book_of
      list-no_name z g = rw (held.viewed, eq-eqb _ _ k, ← f, g)

      -- the search for the deciding line is given the frame `given`
      module _ (u : ⊤) (g : r ≡ Ok u) (given : Frame) (q : given ≡ frame_of c) where
        -- what it asks
        pub asks_match : (packs line_form (line_ok given) c.lines c.pool l p ≡ true) × (given.nodes ≤ node_limit)
            × (length raw ≤ name_limit) × (length demangled ≤ name_limit)
        asks_match = let s = short-names (name_of raw demangled) false u (sym f ∙ g) in rw q (held.lines, held.few, omega (arith, s.raw), s.demangled)

        in_order : every (in_range c.nodes) (things line_form c.lines l p) ≡ true
        in_order = lines_in-range (frame_of c) _ (lines_packed (frame_of c) c.lines c.pool l p held.lines).all

        abbrev asked : Line → Bool
        asked = line_matches (edition_of (frame_of c)) (name_of raw demangled)

        abbrev xs : List Line
        xs = things line_form c.lines l p

        -- d is what it answered, and b whether there is a line
        module _ (d : Option ℕ) (s : d ≡ deciding_among given (name_of raw demangled) xs) (b : Bool) (t : b ≡ is_some d) where
          w : d ≡ deciding_among (frame_of c) (name_of raw demangled) xs
          w = rw q at s

          some_match : (o : Option ℕ) → deciding_among (frame_of c) (name_of raw demangled) xs ≡ o → is_some o ≡ any asked xs
          some_match (Some i) v = let z = (walk_decides c.nodes asked xs in_order i).0 v in sym (match_at asked xs i z.there z.matching)
          some_match None v = sym (match_none asked xs ((walk-nothing c.nodes asked xs in_order).0 v))

          pub list-told : Ok b ≡ contains_asked (view c (five n m l p j)) (name_of raw demangled)
          unfolding contains_asked member_of book_of
          list-told = rw (held.viewed, eq-eqb _ _ k, ← f, g, t, some_match d (sym w))
