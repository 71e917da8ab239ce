-- The journal's checks: its rows, one by one, and its edits, taken back one by one from the latest on. The premises are what the code has
-- learned. Assumes nothing.
use Prim.Native.Nat.{ℕ, zero, suc, ◌+◌, ◌-◌, ◌*◌, ◌/◌, ◌≤◌, ◌<◌}
use mathlib.Core.Path.{◌≡◌, refl, sym, ap, ap₂, ◌∙◌}
use mathlib.Core.List.{List, [], ◌∷◌, ◌++◌}
use mathlib.Core.Bool.{Bool, true, false, cond, not, and-false}
use Rattle.std.specs.Prelude.{Some, None}
use native.Mathlib.Numerals.{add-one}
use native.Mathlib.Omega.{arith}
use borrow.Author.Tests.{eq-eqb, ne_eqb, lt-ltb, le-ltb, not-true, not-false}
use lib.Dec.{eqb, ltb}
use lib.ListN.{length, take, drop, get_or, set, length-set, drop_of_length-le}
use lib.Seq.{drop-cons, get_or-drop, take-suc, take_all}
use Rattle.packing.specs.Padding.{all_zero, zeros}
use Rattle.lists.specs.Each.{every}
use Rattle.packing.specs.Tables.{Form, fine, packs, things}
use Rattle.packing.proofs.Turns.{left, left_all, thing_bad, row_more, end_good, packs_no, packs-rows}
use Rattle.book.specs.Books.{Line, Edit, no_line}
use Rattle.book.specs.Layout.{edit_form, has_mark, line_form, line_width}
use Rattle.book.specs.Edits.{add_back, all_back, all_stand, journal_fits, line_at, marked, standing_again, stands, strike_back, take_back, then_back}
use Rattle.book.specs.Sanity.{edit_ok}
use Rattle.book.proofs.Forms.{edit_laws, stands_unmarked}
use Rattle.book_check.proofs.LineRows.{length-things, line_coded}

-- ---- the check of n rows: row i starts at `at`, and what is left from there on decides
pub record Listed (l : List ℕ) (n i at : ℕ) : Type 0 where
  pub within : i ≤ n
  pub place : at ≡ 2 * i
  pub goes : fine edit_form edit_ok 0 n 0 l [] ≡ left edit_form edit_ok 0 n i 0 l []

module _ (l : List ℕ) (n : ℕ) where
  pub edits_start : Listed l n 0 0
  edits_start = record { within = omega arith; place = omega arith; goes = left_all edit_form edit_ok 0 n l [] }

  module _ (i at : ℕ) (z : Listed l n i at) where
    module _ (room : 2 * n ≤ length l) (more : i < n) where
      first : get_or (drop (2 * i) l) 0 0 ≡ get_or l at 0
      first = let e : 2 * i + 0 ≡ at = omega (arith, z.place) in get_or-drop (2 * i) l 0 0 ∙ ap (λ (k : ℕ). get_or l k 0) e

      -- a row that is neither an add nor a strike
      pub edit_wrong : (get_or l at 0 ≡ 1 → ⊥) → (get_or l at 0 ≡ 2 → ⊥) → false ≡ fine edit_form edit_ok 0 n 0 l []
      unfolding edit_form edit_ok
      edit_wrong f g =
          sym (z.goes ∙ thing_bad edit_form edit_ok 0 n l [] i 0 more room (rw (first, ne_eqb (get_or l at 0) 1 f, ne_eqb (get_or l at 0) 2 g)))

      -- a row whose edit is as asked
      next : edit_ok (record { what = get_or l at 0; line = get_or (drop (2 * i) l) 1 0 }) ≡ true → Listed l n (i + 1) (at + 2)
      unfolding edit_form
      next t = record {
        within = omega arith;
        place = omega (arith, z.place);
        goes = z.goes ∙ row_more edit_form edit_ok 0 n l [] i 0 more room refl (omega arith) (rw first t);
      }

      pub edit_add : get_or l at 0 ≡ 1 → Listed l n (i + 1) (at + 2)
      unfolding edit_ok
      edit_add e = next (rw (eq-eqb (get_or l at 0) 1 e))

      pub edit_strike : (get_or l at 0 ≡ 1 → ⊥) → get_or l at 0 ≡ 2 → Listed l n (i + 1) (at + 2)
      unfolding edit_ok
      edit_strike f e = next (rw (ne_eqb (get_or l at 0) 1 f, eq-eqb (get_or l at 0) 2 e))

    pub edits_end : (r : Bool) → n ≤ i → r ≡ all_zero (drop at l) → r ≡ fine edit_form edit_ok 0 n 0 l []
    unfolding edit_form
    edits_end r done e =
        let k : at ≡ 2 * n = omega (arith, z.within, z.place) in
        e ∙ ap (λ (m : ℕ). all_zero (drop m l)) k ∙ sym (z.goes ∙ end_good edit_form edit_ok 0 n l [] i 0 (omega (arith, z.within)) refl)

  -- ---- the test of the packing, from its parts
  pub edits-short : length l / 2 < n → false ≡ packs edit_form edit_ok n 0 l []
  unfolding edit_form
  edits-short h = packs_no edit_laws (λ t. omega (arith, t.rowroom))

  pub edits_left : (r : Bool) → r ≡ fine edit_form edit_ok 0 n 0 l [] → r ≡ packs edit_form edit_ok n 0 l []
  unfolding all_zero every
  edits_left r q = packs-rows edit_form edit_ok n 0 l [] (omega arith) refl refl q

-- ---- lines that stand again
length-again : (gs : List ℕ) (ls : List Line) → length (standing_again gs ls) ≡ length ls
unfolding standing_again
length-again gs [] = refl
length-again [] (x ∷ ls) = refl
length-again (g ∷ gs) (x ∷ ls) = ap suc (length-again gs ls)

-- no mark, no change
again_none : (k : ℕ) (ls : List Line) → standing_again (zeros k) ls ≡ ls
unfolding standing_again
again_none k [] = refl
again_none zero (x ∷ ls) = refl
again_none (suc k) (x ∷ ls) = ap (λ (t : List Line). x ∷ t) (again_none k ls)

-- the front of them
again-take : (gs : List ℕ) (i : ℕ) (ls : List Line) → take i (standing_again gs ls) ≡ standing_again gs (take i ls)
unfolding standing_again
again-take gs zero ls = refl
again-take gs (suc i) [] = refl
again-take [] (suc i) (x ∷ ls) = refl
again-take (g ∷ gs) (suc i) (x ∷ ls) = ap (λ (t : List Line). cond (eqb g 0) x (marked 0 x) ∷ t) (again-take gs i ls)

struck-again : (b : Bool) (x : Line) → (cond b x (marked 0 x)).struck ≡ cond b x.struck 0
struck-again true x = refl
struck-again false x = refl

-- the mark of one of them
again-struck : (gs : List ℕ) (ls : List Line) (i : ℕ) → i < length ls → i < length gs
    → (line_at (standing_again gs ls) i).struck ≡ cond (eqb (get_or gs i 0) 0) (line_at ls i).struck 0
unfolding standing_again
again-struck gs [] i h k = absurd (omega arith)
again-struck [] (x ∷ ls) i h k = absurd (omega arith)
again-struck (g ∷ gs) (x ∷ ls) zero h k = struck-again (eqb g 0) x
again-struck (g ∷ gs) (x ∷ ls) (suc i) h k = again-struck gs ls i (omega arith) (omega arith)

marked-again : (b : Bool) (x : Line) → marked 0 (cond b x (marked 0 x)) ≡ marked 0 x
marked-again true x = refl
marked-again false x = refl

-- one more of them
again-set : (gs : List ℕ) (ls : List Line) (i : ℕ) → i < length ls → i < length gs
    → set (standing_again gs ls) i (marked 0 (line_at (standing_again gs ls) i)) ≡ standing_again (set gs i 1) ls
unfolding standing_again
again-set gs [] i h k = absurd (omega arith)
again-set [] (x ∷ ls) i h k = absurd (omega arith)
again-set (g ∷ gs) (x ∷ ls) zero h k = ap (λ (y : Line). y ∷ standing_again gs ls) (marked-again (eqb g 0) x)
again-set (g ∷ gs) (x ∷ ls) (suc i) h k = ap (λ (t : List Line). cond (eqb g 0) x (marked 0 x) ∷ t) (again-set gs ls i (omega arith) (omega arith))

-- ---- the latest edit is taken back first
module _ (e : Edit) (ls : List Line) where
  back_some : (es : List Edit) (ms : List Line) → take_back e ls ≡ Some ms → all_back (es ++ (e ∷ [])) ls ≡ all_back es ms
  unfolding all_back
  back_some [] ms t = t
  back_some (d ∷ es) ms t = ap (then_back d) (back_some es ms t)

  back_none : (es : List Edit) → take_back e ls ≡ None → all_back (es ++ (e ∷ [])) ls ≡ None
  unfolding all_back
  back_none [] t = t
  back_none (d ∷ es) t = ap (then_back d) (back_none es t)

-- ---- things of rows, and the edit that is read at one
module _ {X : Type 0} (F : Form X) where
  take-things : (i n : ℕ) (l ps : List ℕ) → i ≤ n → take i (things F n l ps) ≡ things F i l ps
  unfolding things
  take-things zero n l ps h = refl
  take-things (suc i) zero l ps h = absurd (omega arith)
  take-things (suc i) (suc n) l ps h =
      ap (λ (t : List X). F.back l (take (F.size l) ps) ∷ t) (take-things i n (drop F.width l) (drop (F.size l) ps) (omega arith))

-- what stands for an edit past the last
no_edit : Edit
no_edit = record { what = 0; line = 0 }

edit_at : (n : ℕ) (l ps : List ℕ) (i : ℕ) → i < n → get_or (things edit_form n l ps) i no_edit ≡ record { what = get_or l (2 * i) 0; line = get_or l (2 * i + 1) 0 }
unfolding things edit_form
edit_at zero l ps i h = absurd (omega arith)
edit_at (suc n) l ps zero h = refl
edit_at (suc n) l ps (suc i) h =
    let a : 2 + 2 * i ≡ 2 * suc i = omega arith in
    let b : 2 + (2 * i + 1) ≡ 2 * suc i + 1 = omega arith in
    edit_at n (drop 2 l) (drop 0 ps) i (omega arith)
    ∙ ap₂ (λ (u v : ℕ). record { what = u; line = v }) (get_or-drop 2 l (2 * i) 0 ∙ ap (λ (k : ℕ). get_or l k 0) a)
    (get_or-drop 2 l (2 * i + 1) 0 ∙ ap (λ (k : ℕ). get_or l k 0) b)

-- ---- the lines as they are once some edits are taken back: the first m, those standing again that have a mark in gs
abbrev pub lines_back : List ℕ → List ℕ → List ℕ → ℕ → List Line
lines_back l ps gs m = standing_again gs (things line_form m l ps)

-- whether line i of them stands, as the code reads it
abbrev pub stands_back : List ℕ → List ℕ → ℕ → Bool
stands_back l gs i = eqb (cond (eqb (get_or gs i 0) 0) (get_or l (line_width * i + 1) 0 / 32) 0) 0

back_count : (l ps gs : List ℕ) (m : ℕ) → length (lines_back l ps gs m) ≡ m
back_count l ps gs m = length-again gs (things line_form m l ps) ∙ length-things line_form m l ps

module _ (l ps gs : List ℕ) (m : ℕ) (long : m ≤ length gs) where
  stands_is : (i : ℕ) → i < m → stands (line_at (lines_back l ps gs m) i) ≡ stands_back l gs i
  stands_is i h =
      let k : i < length (things line_form m l ps) = omega (arith, length-things line_form m l ps) in
      ap (λ (s : ℕ). eqb s 0)
      (again-struck gs (things line_form m l ps) i k (omega arith) ∙ ap (λ (s : ℕ). cond (eqb (get_or gs i 0) 0) s 0) (line_coded m l ps i h).struck)

  back_take : (i : ℕ) → i ≤ m → take i (lines_back l ps gs m) ≡ lines_back l ps gs i
  back_take i h = again-take gs i (things line_form m l ps) ∙ ap (standing_again gs) (take-things line_form i m l ps h)

  back_set : (i : ℕ) → i < m → set (lines_back l ps gs m) i (marked 0 (line_at (lines_back l ps gs m) i)) ≡ lines_back l ps (set gs i 1) m
  back_set i h = again-set gs (things line_form m l ps) i (omega (arith, length-things line_form m l ps)) (omega arith)

-- ---- whether the first n lines stand: those from i on decide
pub record Standing (l ps gs : List ℕ) (n i : ℕ) : Type 0 where
  pub within : i ≤ n
  pub goes : every stands (lines_back l ps gs n) ≡ every stands (drop i (lines_back l ps gs n))

module _ (l ps gs : List ℕ) (n : ℕ) where
  pub stand-starts : Standing l ps gs n 0
  stand-starts = record { within = omega arith; goes = refl }

  module _ (i : ℕ) (z : Standing l ps gs n i) where
    module _ (long : n ≤ length gs) (more : i < n) (r : Bool) (k : r ≡ stands_back l gs i) where
      here : stands (line_at (lines_back l ps gs n) i) ≡ r
      here = stands_is l ps gs n long i more ∙ sym k

      pub stand_stops : not r ≡ true → false ≡ every stands (lines_back l ps gs n)
      unfolding every
      stand_stops f =
          let h : i < length (lines_back l ps gs n) = omega (arith, back_count l ps gs n) in
          sym (z.goes ∙ rw (drop-cons (lines_back l ps gs n) i no_line h, here, not-true r f))

      pub stand_more : not r ≡ false → Standing l ps gs n (i + 1)
      unfolding every
      stand_more f =
          let h : i < length (lines_back l ps gs n) = omega (arith, back_count l ps gs n) in
          record { within = omega arith; goes = z.goes ∙ rw (add-one, drop-cons (lines_back l ps gs n) i no_line h, here, not-false r f) }

    pub stand-ends : n ≤ i → true ≡ every stands (lines_back l ps gs n)
    unfolding every
    stand-ends h = sym (z.goes ∙ rw (drop_of_length-le (lines_back l ps gs n) {i = i} (omega (arith, back_count l ps gs n))))

-- ---- the journal: t of its e edits are left to take back, from the m lines that are left
pub record Backward (l ps j : List ℕ) (n e : ℕ) (gs : List ℕ) (m t : ℕ) : Type 0 where
  pub long : n ≤ length gs
  pub lines : m ≤ n
  pub edits : t ≤ e
  pub goes : journal_fits (things edit_form e j []) (things line_form n l ps) ≡ all_stand (all_back (take t (things edit_form e j [])) (lines_back l ps gs m))

module _ {l ps j : List ℕ} {n e : ℕ} where
  pub backward_starts : {gs : List ℕ} → n ≤ length gs → gs ≡ zeros (length gs) → Backward l ps j n e gs n e
  unfolding journal_fits
  backward_starts {gs} h k =
      let a : things line_form n l ps ≡ lines_back l ps gs n = sym (ap (λ (g : List ℕ). lines_back l ps g n) k ∙ again_none (length gs) (things line_form n l ps)) in
      let b : take e (things edit_form e j []) ≡ things edit_form e j [] = take_all e (things edit_form e j []) (omega (arith, length-things edit_form e j [])) in
      record {
        long = h;
        lines = omega arith;
        edits = omega arith;
        goes = ap₂ (λ (es : List Edit) (ls : List Line). all_stand (all_back es ls)) (sym b) a;
      }

  module _ {gs : List ℕ} {m t : ℕ} (z : Backward l ps j n e gs m t) where
    pub backward_ends : {r : Bool} → t ≤ 0 → r ≡ every stands (lines_back l ps gs m) → r ≡ journal_fits (things edit_form e j []) (things line_form n l ps)
    unfolding all_back
    backward_ends h k =
        let q : t ≡ 0 = omega arith in
        k ∙ sym (z.goes ∙ rw q)

    module _ (more : 0 < t) where
      -- the latest edit that is left
      abbrev what : ℕ
      what = get_or j (2 * (t - 1)) 0

      abbrev line : ℕ
      line = get_or j (2 * (t - 1) + 1) 0

      abbrev latest : Edit
      latest = record { what = what; line = line }

      latest_last : take t (things edit_form e j []) ≡ take (t - 1) (things edit_form e j []) ++ (latest ∷ [])
      latest_last =
          let q : t ≡ suc (t - 1) = omega arith in
          let w : t - 1 < length (things edit_form e j []) = omega (arith, length-things edit_form e j [], z.edits) in
          ap (λ (k : ℕ). take k (things edit_form e j [])) q ∙ take-suc (things edit_form e j []) (t - 1) no_edit w
          ∙ ap (λ (x : Edit). take (t - 1) (things edit_form e j []) ++ (x ∷ [])) (edit_at e j [] (t - 1) (omega (arith, z.edits)))

      -- it cannot be taken back
      refused : take_back latest (lines_back l ps gs m) ≡ None → false ≡ journal_fits (things edit_form e j []) (things line_form n l ps)
      refused k = sym (z.goes ∙ rw (latest_last, back_none latest (lines_back l ps gs m) (take (t - 1) (things edit_form e j [])) k))

      -- it is taken back, and leaves k lines with the marks hs
      taken : (hs : List ℕ) (k : ℕ) → n ≤ length hs → k ≤ m → take_back latest (lines_back l ps gs m) ≡ Some (lines_back l ps hs k) → Backward l ps j n e hs k (t - 1)
      taken hs k w h q = record {
        long = w;
        lines = omega (arith, z.lines);
        edits = omega (arith, z.edits);
        goes = z.goes ∙ rw (latest_last, back_some latest (lines_back l ps gs m) (take (t - 1) (things edit_form e j [])) (lines_back l ps hs k) q);
      }

      long_now : m ≤ length gs
      long_now = omega (arith, z.long, z.lines)

      count : length (lines_back l ps gs m) ≡ m
      count = back_count l ps gs m

      -- an edit of a line that is not there
      none_there : m ≤ line → (b : Bool) → cond b (add_back line (lines_back l ps gs m)) (strike_back line (lines_back l ps gs m)) ≡ None
      unfolding add_back strike_back
      none_there h true = rw (count, ne_eqb m (line + 1) (λ q. omega arith))
      none_there h false = rw (count, le-ltb line m h)

      pub edit_out : m ≤ line → false ≡ journal_fits (things edit_form e j []) (things line_form n l ps)
      unfolding take_back
      edit_out h = refused (none_there h (eqb what 1))

      module _ (h : line < m) where
        -- an add of a line that is not the last
        pub add_early : what ≡ 1 → (m ≡ line + 1 → ⊥) → false ≡ journal_fits (things edit_form e j []) (things line_form n l ps)
        unfolding take_back add_back
        add_early w f = refused (rw (eq-eqb what 1 w, count, ne_eqb m (line + 1) f))

        module _ {r : Bool} (k : r ≡ stands_back l gs line) where
          stood : stands (line_at (lines_back l ps gs m) line) ≡ r
          stood = stands_is l ps gs m long_now line h ∙ sym k

          -- an add of a line that is struck
          pub add-struck : what ≡ 1 → not r ≡ true → false ≡ journal_fits (things edit_form e j []) (things line_form n l ps)
          unfolding take_back add_back
          add-struck w f = refused (rw (eq-eqb what 1 w, stood, not-true r f, and-false (eqb (length (lines_back l ps gs m)) (line + 1))))

          -- an add of the last line, which stands: it goes
          pub add-taken : what ≡ 1 → m ≡ line + 1 → not r ≡ false → Backward l ps j n e gs line (t - 1)
          unfolding take_back add_back
          add-taken w q f =
              taken gs line z.long (omega arith)
              (rw (eq-eqb what 1 w, count, eq-eqb m (line + 1) q, stood, not-false r f) (ap Some (back_take l ps gs m long_now line (omega arith))))

          -- a strike of a line that stands
          pub strike_stood : (what ≡ 1 → ⊥) → r ≡ true → false ≡ journal_fits (things edit_form e j []) (things line_form n l ps)
          unfolding take_back strike_back
          strike_stood w f = refused (rw (ne_eqb what 1 w, stood, f, and-false (ltb line (length (lines_back l ps gs m)))))

          -- a strike of a line that is struck: it stands again
          pub strike-taken : (what ≡ 1 → ⊥) → r ≡ false → Backward l ps j n e (set gs line 1) m (t - 1)
          unfolding take_back strike_back
          strike-taken w f =
              taken (set gs line 1) m (omega (arith, z.long, length-set gs line 1)) (omega arith)
              (rw (ne_eqb what 1 w, count, lt-ltb line m h, stood, f) (ap Some (back_set l ps gs m long_now line h)))

-- ---- whether line i stands, from the two numbers
module _ (l gs : List ℕ) (i : ℕ) where
  -- its strike is taken back
  pub stands-marked : (get_or gs i 0 ≡ 0 → ⊥) → true ≡ stands_back l gs i
  stands-marked f = rw (ne_eqb (get_or gs i 0) 0 f)

  -- it is not, and the code tells
  pub stands-code : get_or gs i 0 ≡ 0 → (m : Bool) → m ≡ has_mark (get_or l (line_width * i + 1) 0) → not m ≡ stands_back l gs i
  stands-code e m h = rw (eq-eqb (get_or gs i 0) 0 e, h) (sym (stands_unmarked 0 (get_or l (line_width * i + 1) 0) []))
