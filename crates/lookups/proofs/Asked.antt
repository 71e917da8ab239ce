-- What a question knows behind its check that the buffers hold a book; and that no locality is found exactly when no line matches. The Bool that is named x is
-- whether the buffers hold a book, and the code asked whether they do not. Assumes nothing.
use Prim.Native.Nat.{ℕ, ◌≤◌, ◌<◌}
use mathlib.Core.Path.{◌≡◌, refl, sym, ap, ◌∙◌}
use mathlib.Core.List.{List}
use mathlib.Core.Bool.{Bool, true, false, not}
use mathlib.Core.Logic.{◌↔◌}
use Rattle.std.specs.Prelude.{Option, Some, None, Result, Ok, ⊤}
use native.Mathlib.Omega.{arith}
use borrow.Author.Tests.{not-false}
use lib.ListN.{length, get_or}
use Rattle.numbers.specs.declared.Refusal.{Refusal}
use Rattle.numbers.specs.Limits.{name_limit, node_limit}
use Rattle.packing.specs.Tables.{packs}
use Rattle.book.specs.declared.Counts.{Counts}
use Rattle.book.specs.Books.{Line, Book, book_frame, edition_of, no_line, regular}
use Rattle.book.specs.Layout.{Buffers, five, frame_of, line_form}
use Rattle.book.specs.Sanity.{line_ok}
use Rattle.book.specs.View.{holds, view}
use Rattle.book.proofs.Asking.{held-book, viewed-in_range}
use Rattle.ranking.specs.Matching.{Name, line_matches, name_of}
use Rattle.ranking.specs.Names.{name_refusal}
use Rattle.ranking.specs.Walk.{deciding}
use Rattle.ranking.proofs.Deciders.{deciding-nothing}
use Rattle.ranking.proofs.NameTests.{short-names}
use Rattle.std.specs.Bool.{then_some}
use Rattle.std.specs.Borrow.{Bor}
use Rattle.lookups.specs.Lookups.{bytes_of, decided_locality, locality_of, wanted_of}

-- ---- behind the check
pub book-asked : (c : Counts) (b : Buffers) (x : Bool) → x ≡ holds c b → not x ≡ false → holds c b ≡ true
book-asked c b x e h = sym e ∙ not-false x h

-- what the search for the line that decides asks, of a name that is not refused
pub asks_decider : (c : Counts) (n m l p j raw demangled : List ℕ) → holds c (five n m l p j) ≡ true
    → (long : Bool) (r : Result ⊤ Refusal) → r ≡ name_refusal (name_of raw demangled) long → (x : ⊤) → r ≡ Ok x
    → (packs line_form (line_ok (frame_of c)) c.lines c.pool l p ≡ true) × (c.nodes ≤ node_limit) × (length raw ≤ name_limit) × (length demangled ≤ name_limit)
asks_decider c n m l p j raw demangled b long r f x g =
    let h = held-book c (five n m l p j) b in
    let s = short-names (name_of raw demangled) long x (sym f ∙ g) in
    (h.lines, h.few, omega (arith, s.raw), s.demangled)

-- ---- a wanted version, told by a Bool and its bytes
pub as_told : (has : Bool) (w : Bor (List ℕ)) → bytes_of (then_some has w) ≡ wanted_of has w.now
as_told true w = refl
as_told false w = refl

-- ---- "nothing is found exactly when no line matches": of a Regular book
undecided : (ls : List Line) (o : Option ℕ) → decided_locality ls o ≡ None → o ≡ None
undecided ls (Some i) e = cc
undecided ls None e = refl

module _ (c : Counts) (b : Buffers) (w : Book) (v : view c b ≡ Some w) (k : w.kind ≡ regular) (nm : Name) where
  by_ranking : locality_of w nm ≡ decided_locality w.lines (deciding nm w)
  unfolding locality_of
  by_ranking = rw k

  pub locality-nothing : (locality_of w nm ≡ None)
      ↔ ((i : ℕ) → i < length w.lines → line_matches (edition_of (book_frame w)) nm (get_or w.lines i no_line) ≡ false)
  locality-nothing =
      let g = viewed-in_range c b w v in (
        λ e. (deciding-nothing nm w g).0 (undecided w.lines (deciding nm w) (sym by_ranking ∙ e)),
        λ f. by_ranking ∙ ap (decided_locality w.lines) ((deciding-nothing nm w g).1 f),
      )
