-- What is answered when a symbol's line is asked. d is the buffer that was lent for it, l what is left there, and k how many bytes were put. Assumes nothing.
use Prim.Native.Nat.{ℕ, ◌+◌, ◌≤◌}
use mathlib.Core.Path.{◌≡◌, ap, ◌∙◌}
use mathlib.Core.List.{List, [], ◌∷◌, ◌++◌}
use mathlib.Core.Bool.{Bool, true, false}
use Rattle.std.specs.Prelude.{Option, Result, Ok, Err}
use Rattle.numbers.specs.declared.Refusal.{Refusal}
use Rattle.numbers.specs.Saying.{number}
use native.Mathlib.Omega.{arith}
use borrow.Author.Tests.{eq-eqb, ne_eqb}
use lib.ListN.{length, length-append}
use Rattle.numbers.specs.Signs.{space}
use Rattle.lists.specs.Texts.{codes}
use Rattle.linker_script.specs.Finding.{first_from, is}
use Rattle.book.specs.declared.Counts.{Counts}
use Rattle.book.specs.Books.{Book, export}
use Rattle.book.specs.Layout.{Buffers}
use Rattle.book.specs.View.{view}
use Rattle.ranking.specs.Matching.{name_of}
use Rattle.lookups.specs.Lookups.{LocalityAnswer, VersionAnswer, locality_asked, version_asked}
use Rattle.export_list.specs.Membership.{contains_asked}
use Rattle.input.specs.Splitting.{demangled_part, part_before, symbol_part}
use Rattle.input.proofs.Halves.{part-short}
use Rattle.printing.specs.Printing.{refused_fields}
use Rattle.printing.proofs.Pieces.{Begins, Puts, begins, few-refused, line_end, puts-both, puts-long}
use Rattle.printing_symbols.specs.Lines.{asked_line, symbol_answered, symbol_line}
use Rattle.printing_why.specs.Splits.{asked_name, asked_version, raw_name}
use Rattle.printing_why.specs.Whys.{why_answered}
use Rattle.desk.specs.declared.answering.Ran.{Ran}
use Rattle.desk.specs.Answers.{Tells, ran_with}
use Rattle.desk.specs.Asked.{AsksAsVerlist, asked, member_asked, member_fields, member_line, version_asked_line}

-- ---- a name and whether it is in an export list
few-member : (m : Result Bool Refusal) → length (member_fields m) ≤ 12
unfolding codes
few-member (Ok true) = omega arith
few-member (Ok false) = omega arith
few-member (Err e) = few-refused (number e)

module _ (d name : List ℕ) (m : Result Bool Refusal) {d₁ d₂ : List ℕ} {a b : ℕ} (room : length name + 48 ≤ length d) (p : Puts d 0 name d₁ a)
    (q : Puts d₁ a (space ∷ []) d₂ b) where
  -- the fields and the end of the line stand behind the blank
  member-put : {l : List ℕ} {r : ℕ} → Puts d₂ b (member_fields m ++ line_end) l r → Begins d (member_line name m) l r
  unfolding member_line
  member-put {l} {r} s =
      let w : a ≡ 0 + length name = p.0 in
      let f = few-member m in
      let x₁ = puts-long d 0 name (omega arith) p in
      let t = length-append (member_fields m) line_end in
      let y : Puts d₁ a (space ∷ (member_fields m ++ line_end)) l r = puts-both d₁ a (space ∷ []) (member_fields m ++ line_end) (omega arith) q s in
      begins d (member_line name m) (puts-both d 0 name (space ∷ (member_fields m ++ line_end)) (omega arith) p y)

  pub within-put : {w : Bool} {l : List ℕ} {r : ℕ} → m ≡ Ok w → Puts d₂ b (member_fields (Ok w) ++ line_end) l r → Begins d (member_line name m) l r
  within-put e s = member-put (rw e s)

  pub refused-put : {z : Refusal} {d₃ l : List ℕ} {f r : ℕ} → m ≡ Err z → Puts d₂ b (refused_fields (number z)) d₃ f → Puts d₃ f line_end l r
      → Begins d (member_line name m) l r
  refused-put {z} {l = l} {r = r} e s t =
      let w : a ≡ 0 + length name = p.0 in
      let w₂ : b ≡ a + 1 = q.0 in
      let x₁ = puts-long d 0 name (omega arith) p in
      let x₂ = puts-long d₁ a (space ∷ []) (omega arith) q in
      let y : Puts d₂ b (refused_fields (number z) ++ line_end) l r = puts-both d₂ b (refused_fields (number z)) line_end (omega (arith, few-refused (number z))) s t in
      member-put (rw e y)

-- ---- a part of a part of a line is no longer than the line
pub part_room : (t symbol raw d : List ℕ) (m k : ℕ) → symbol ≡ part_before t (first_from (is m) t 0) → raw ≡ part_before symbol (first_from (is k) symbol 0)
    → length t + 48 ≤ length d → length raw + 48 ≤ length d
part_room t symbol raw d m k e f h = omega (arith, ap length e, ap length f, part-short t m, part-short symbol k)

-- ---- a name asked
pub member-put-asked : (d raw demangled : List ℕ) (w : Option Book) (m : Result Bool Refusal) (l : List ℕ) (r : ℕ) → m ≡ contains_asked w (name_of raw demangled)
    → Begins d (member_line raw m) l r → Begins d (member_asked w (name_of raw demangled)) l r
unfolding member_asked
member-put-asked d raw demangled w m l r e p = rw (← e) p

pub version-put-asked : (d raw demangled : List ℕ) (w : Option Book) (wanted : Option (List ℕ)) (v : VersionAnswer) (s : LocalityAnswer) (l : List ℕ) (r : ℕ)
    → v ≡ version_asked w (name_of raw demangled) wanted → s ≡ locality_asked w (name_of raw demangled) → Begins d (symbol_line raw v s) l r
    → Begins d (version_asked_line w (name_of raw demangled) wanted) l r
unfolding version_asked_line
version-put-asked d raw demangled w wanted v s l r e f p = rw (← e, ← f) p

-- ---- `ask`: the line t, its raw name and its demangled one
module _ (c : Counts) (b : Buffers) (t d l : List ℕ) (k : ℕ) (r : Ran) (q : r ≡ ran_with c k true) {raw demangled : List ℕ} (e : raw ≡ raw_name t)
    (f : demangled ≡ demangled_part t) where
  pub list-asked : c.kind ≡ export → Begins d (member_asked (view c b) (name_of raw demangled)) l k → Tells c b (λ b w. asked c.kind w t) d r l
  unfolding asked asked_name
  list-asked h p = rw (eq-eqb c.kind export h, ← e, ← f) (q ∙ ap (λ (n : ℕ). ran_with c n true) p.0, p.1)

  pub script-asked : (c.kind ≡ export → ⊥) → {v : Option (List ℕ)} → v ≡ asked_version t
      → Begins d (version_asked_line (view c b) (name_of raw demangled) v) l k → Tells c b (λ b w. asked c.kind w t) d r l
  unfolding asked asked_name
  script-asked h g p = rw (ne_eqb c.kind export h, ← e, ← f, ← g) (q ∙ ap (λ (n : ℕ). ran_with c n true) p.0, p.1)

-- ---- `why`
pub why-told : (c : Counts) (b : Buffers) (s t d l : List ℕ) (k : ℕ) (r : Ran) → r ≡ ran_with c k true → Begins d (why_answered s (view c b) t) l k
    → Tells c b (λ b w. why_answered s w t) d r l
why-told c b s t d l k r q p = (q ∙ ap (λ (n : ℕ). ran_with c n true) p.0, p.1)

-- ---- a line without a TAB
pub asks_as_verlist : AsksAsVerlist
unfolding asked version_asked_line asked_name symbol_part demangled_part symbol_answered asked_line
asks_as_verlist kind w t h e = rw (ne_eqb kind export h, e)
