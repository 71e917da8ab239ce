-- A book while its text is read is sound: it has room, its nodes and lines are good, its names lie in the text that was read, and it agrees with the cursor on
-- where the reading stands. It is so at the start (`sound_start`) and behind each event that is taken (`sound_event`). Assumes nothing.
use Prim.Native.Nat.{ℕ, zero, suc, ◌+◌, ◌-◌, ◌*◌, ◌≤◌, ◌<◌}
use mathlib.Core.Path.{◌≡◌, refl, sym, ap, ◌∙◌}
use mathlib.Core.List.{List, [], ◌∷◌, ◌++◌}
use mathlib.Core.Bool.{Bool, true, false, cond, true≢false, or-true}
use Rattle.std.specs.Prelude.{Option, Some, None}
use native.Mathlib.Omega.{arith}
use borrow.Author.Tests.{eq-eqb, ltb-true}
use lib.Dec.{eqb, ltb}
use lib.ListN.{length, get_or, set, length-append, length-set}
use Rattle.linker_script.specs.Parts.{part}
use Rattle.numbers.specs.Editions.{reld}
use Rattle.numbers.specs.Limits.{script_limit}
use Rattle.numbers.specs.Marks.{general, global}
use Rattle.numbers.specs.Signs.{semicolon}
use Rattle.lists.specs.Each.{every}
use Rattle.packing.proofs.TableLaws.{every_append}
use Rattle.classes.specs.Classes.{class_number}
use Rattle.storing.specs.Keeping.{Keep, kept, refused, keep}
use Rattle.reading_cursors.specs.declared.places.Place.{Place}
use Rattle.reading_cursors.specs.declared.Cursor.{Cursor}
use Rattle.reading_cursors.specs.declared.Event.{Event}
use Rattle.reading_cursors.specs.Moves.{start}
use Rattle.reading_cursors.specs.Places.{of_script, of_symbol}
use Rattle.reading.proofs.Parts.{Marked, Parts, node, start_marked}
use Rattle.reading.proofs.Origins.{Near, Origin, block_place}
use Rattle.reading.proofs.Origins as origin
use Rattle.reading.proofs.Spans.{Closes, Spans, outside, stage}
use Rattle.book.specs.Books.{Node, Line, edition_of, export, first_named, frame_with, new_line, offset_at, regular, with_offset}
use Rattle.book.specs.Edits.{stands}
use Rattle.book.specs.Layout.{Buffers, node_width}
use Rattle.book.specs.Sanity.{kind_allows, line_ok, name_at, no_semicolon}
use Rattle.book.proofs.FirstNamed.{first_has}
use Rattle.book_rooms.specs.Rooms.{line_room, node_room}
use Rattle.book_building.specs.Building.{Building, Taken, on, no, in_block, out_of_block, take_event, take_kept, take_node, take_parent, to_parent, with_parent, frame_so_far}
use Rattle.book_opening.specs.Opening.{nothing_yet}
use Rattle.book_building.proofs.Kept.{kept_line}
use Rattle.book_building.proofs.NodeEvents.{every_more}
use Rattle.book_opened.proofs.Fitting.{Roomy, roomy-line, roomy-node, roomy-parent, roomy_start}
use Rattle.book_opened.proofs.KindLines.{RustLines, rust-line, rust-mixed, rust_start}
use Rattle.book_opened.proofs.Nodes.{NameRead, NodesGood, every-part, fresh, name_is_read, node_begins, node_ends, nodes_start, part_length}
use Rattle.book_opened.proofs.Lengths.{Spelt, spelt-body, spelt_end, spelt-node, spelt-set, spelt_start, spelt-stays, twice-spelt}

-- ---- what holds
-- of the nodes and lines
pub record Good (b : Buffers) (xs : List Node) (ys : List Line) : Type 0 where
  pub rooms : Roomy b xs ys
  pub nodes : NodesGood xs
  pub lines : every (line_ok (frame_with regular (length xs))) ys ≡ true
  pub stand : every stands ys ≡ true

-- of where the reading stands: outside an extern block there is no language, and one among the globals makes a script mixed
pub record Agrees (place : Place) (section language : ℕ) (inside mixed : Bool) : Type 0 where
  pub block : inside ≡ block_place place
  pub plain : block_place place ≡ false → language ≡ general
  pub among : block_place place ≡ true → section ≡ global → mixed ≡ true

-- of an export list
pub record Listed (section : ℕ) (xs : List Node) (ys : List Line) : Type 0 where
  pub one : length xs ≡ 1
  pub global_yet : section ≡ global
  pub globals : every (kind_allows export) ys ≡ true

-- place is where the reading of the text began
pub record Sound (place : Place) (b : Buffers) (c : Cursor) (g : Building) : Type 0 where
  pub few : of_symbol c.place ≡ false
  pub side : of_script c.place ≡ of_script place
  pub marked : Marked c
  pub good : Good b g.nodes g.lines
  pub spelt : Spelt c g.nodes
  pub agrees : Agrees c.place c.section c.language g.inside g.mixed
  pub rust : RustLines g.mixed g.starred g.lines
  pub list : of_script c.place ≡ false → Listed c.section g.nodes g.lines

-- ---- P holds of what an event makes of a book, where it is taken
pub data Holds (P : Building → Type 0) : Taken → Type 0 where
  takes : {g : Building} → P g → Holds P (on g)
  refuses : {n p : ℕ} → Holds P (no n p)

pub holds-cond : {P : Building → Type 0} (t : Bool) {x y : Taken} → (t ≡ true → Holds P x) → Holds P y → Holds P (cond t x y)
holds-cond true f g = f refl
holds-cond false f g = g

-- ---- nodes and lines: a node more
good_node : (b : Buffers) (xs : List Node) (ys : List Line) (name : List ℕ) → Good b xs ys → NameRead name → node_room b xs name ≡ true
    → Good b (xs ++ fresh name ∷ []) ys
good_node b xs ys name t h e = record {
  rooms = roomy-node b xs ys t.rooms (fresh name) e;
  nodes = node_begins xs t.nodes name h;
  lines = rw length-append (every_more (length xs) ys t.lines);
  stand = t.stand;
}

-- a parent is set
good_parent : (b : Buffers) (xs : List Node) (ys : List Line) (name : List ℕ) → Good b xs ys → every no_semicolon name ≡ true
    → (q : ℕ) → first_named xs 0 name ≡ Some q → q < length xs - 1 → 2 * length name + length (name_at xs (length xs - 1)) + 6 ≤ script_limit
    → Good b (set xs (length xs - 1) (record { name = name_at xs (length xs - 1); parent = q })) ys
good_parent b xs ys name t h q f k l = record {
  rooms = roomy-parent b xs ys t.rooms (length xs - 1) (record { name = name_at xs (length xs - 1); parent = q }) refl;
  nodes = node_ends xs t.nodes name h q f k l;
  lines = rw length-set t.lines;
  stand = t.stand;
}

-- a line more
good_line : (b : Buffers) (xs : List Node) (ys : List Line) (y : Line) → Good b xs ys → line_ok (frame_with regular (length xs)) y ≡ true → stands y ≡ true
    → line_room b ys y.bytes ≡ true → Good b xs (ys ++ y ∷ [])
unfolding every
good_line b xs ys y t h k e = record {
  rooms = roomy-line b xs ys t.rooms y e;
  nodes = t.nodes;
  lines = every_append (line_ok (frame_with regular (length xs))) ys (y ∷ []) t.lines (rw h);
  stand = every_append stands ys (y ∷ []) t.stand (rw k);
}

-- ---- the start
module _ (b : Buffers) (s : List ℕ) (place : Place) (room : node_width ≤ length b.nodes) (few : of_symbol place ≡ false) (free : block_place place ≡ false)
    (none : stage place ≡ outside) where
  pub sound_start : Sound place b (start reld place) nothing_yet
  unfolding start nothing_yet every
  sound_start = record {
    few = few;
    side = refl;
    marked = start_marked reld place;
    good = record { rooms = roomy_start b room; nodes = nodes_start; lines = refl; stand = refl };
    spelt = spelt_start (start reld place) none;
    agrees = record { block = sym free; plain = λ _. refl; among = λ e. absurd (true≢false (sym e ∙ free)) };
    rust = rust_start;
    list = λ _. record { one = refl; global_yet = refl; globals = refl };
  }

-- ---- an event: the cursor c before it, and d behind it
module _ (place : Place) (b : Buffers) (c d : Cursor) (g : Building) (t : Sound place b c g) (m : Marked d) (near : Near c d.place) where
  behind : of_script d.place ≡ of_script place
  behind = near.same ∙ t.side

  -- a list was one before, and what was a script is none
  was_list : of_script d.place ≡ false → of_script c.place ≡ false
  was_list h = sym near.same ∙ h

  no_list : {xs : List Node} {ys : List Line} → of_script c.place ≡ true → of_script d.place ≡ false → Listed d.section xs ys
  no_list l h = absurd (true≢false (sym l ∙ was_list h))

  -- outside extern blocks
  apart : block_place c.place ≡ false → block_place d.place ≡ false → d.language ≡ c.language
      → Agrees d.place d.section d.language g.inside g.mixed
  apart h k z = record { block = t.agrees.block ∙ h ∙ sym k; plain = λ _. z ∙ t.agrees.plain h; among = λ e. absurd (true≢false (sym e ∙ k)) }

  sound-node : (p : ℕ) (name : List ℕ) → of_script c.place ≡ true → block_place c.place ≡ false → block_place d.place ≡ false → d.language ≡ c.language
      → NameRead name → Spelt d (g.nodes ++ fresh name ∷ []) → Holds (Sound place b d) (take_node b g p name)
  unfolding take_node
  sound-node p name l h k z e w = holds-cond (node_room b g.nodes name) (λ r. takes (record {
    few = near.few;
    side = behind;
    marked = m;
    good = good_node b g.nodes g.lines name t.good e r;
    spelt = w;
    agrees = apart h k z;
    rust = t.rust;
    list = no_list l;
  })) refuses

  -- nodes and lines stay as they are
  stays : block_place c.place ≡ false → block_place d.place ≡ false → d.language ≡ c.language
      → (of_script d.place ≡ false → d.section ≡ c.section) → Spelt d g.nodes → Sound place b d g
  stays h k z w v = record {
    few = near.few;
    side = behind;
    marked = m;
    good = t.good;
    spelt = v;
    agrees = apart h k z;
    rust = t.rust;
    list = λ l.
        let o = t.list (was_list l) in
        record { one = o.one; global_yet = w l ∙ o.global_yet; globals = o.globals };
  }

  -- the parent text is a name without `;`, of n bytes at most
  module _ (p n : ℕ) (w : Closes c p n d) (short : d.at ≤ script_limit) where
    closed : Spelt d g.nodes
    closed = spelt_end c d g.nodes p n w t.spelt

    sound-parent : (name : List ℕ) → of_script c.place ≡ true → block_place c.place ≡ false → block_place d.place ≡ false
        → d.language ≡ c.language → every no_semicolon name ≡ true → length name ≤ n → Holds (Sound place b d) (take_parent g p name)
    unfolding take_parent
    sound-parent [] l h k z f few = takes (stays h k z (λ j. absurd (true≢false (sym l ∙ was_list j))) closed)
    sound-parent (x ∷ name) l h k z f few = by_first (first_named g.nodes 0 (x ∷ name)) refl
      where
        -- node 0 has no name
        not_base : (q : ℕ) → name_at g.nodes q ≡ x ∷ name → 0 < q
        not_base zero e = absurd (omega (arith, ap length (sym e ∙ ap (λ (y : Node). y.name) t.good.nodes.base)))
        not_base (suc q) e = omega arith

        fits : (q : ℕ) → first_named g.nodes 0 (x ∷ name) ≡ Some q → q < length g.nodes - 1
            → 2 * length (x ∷ name) + length (name_at g.nodes (length g.nodes - 1)) + 6 ≤ script_limit
        fits q v e =
            let o : q - 0 ≡ q = omega arith in
            let y : name_at g.nodes q ≡ x ∷ name = rw o at (first_has g.nodes 0 (x ∷ name) q v).name in
            let u = twice-spelt c d g.nodes p n w t.spelt q (not_base q y) e (rw y few) in
            omega (arith, rw y at u)

        set_so : (q : ℕ) → first_named g.nodes 0 (x ∷ name) ≡ Some q → q < length g.nodes - 1
            → Sound place b d (with_parent g (length g.nodes - 1) q)
        set_so q v e = record {
          few = near.few;
          side = behind;
          marked = m;
          good = good_parent b g.nodes g.lines (x ∷ name) t.good f q v e (fits q v e);
          spelt = spelt-set d g.nodes (record { name = name_at g.nodes (length g.nodes - 1); parent = q }) refl closed;
          agrees = apart h k z;
          rust = t.rust;
          list = no_list l;
        }

        by_first : (a : Option ℕ) → first_named g.nodes 0 (x ∷ name) ≡ a → Holds (Sound place b d) (to_parent g p a)
        by_first (Some q) v = holds-cond (ltb q (length g.nodes - 1)) (λ e. takes (set_so q v (ltb-true _ _ e))) refuses
        by_first None v = refuses

  -- an extern block opens, and closes
  sound-extern : block_place d.place ≡ true → d.section ≡ c.section → Spelt d g.nodes → Sound place b d (in_block g c.section)
  sound-extern k z v = record {
    few = near.few;
    side = behind;
    marked = m;
    good = t.good;
    spelt = v;
    agrees = record {
      block = sym k;
      plain = λ e. absurd (true≢false (sym k ∙ e));
      among = λ _ e. rw (eq-eqb c.section global (sym z ∙ e)) (or-true g.mixed);
    };
    rust = rust-mixed (eqb c.section global) t.rust;
    list = λ l.
        let o = t.list (was_list l) in
        record { one = o.one; global_yet = z ∙ o.global_yet; globals = o.globals };
  }

  sound-closed : block_place d.place ≡ false → d.section ≡ c.section → d.language ≡ general → Spelt d g.nodes → Sound place b d (out_of_block g)
  sound-closed k z w v = record {
    few = near.few;
    side = behind;
    marked = m;
    good = t.good;
    spelt = v;
    agrees = record { block = sym k; plain = λ _. w; among = λ e. absurd (true≢false (sym e ∙ k)) };
    rust = t.rust;
    list = λ l.
        let o = t.list (was_list l) in
        record { one = o.one; global_yet = z ∙ o.global_yet; globals = o.globals };
  }

  -- a line
  export-line : (y : Line) → y.section ≡ global → kind_allows export y ≡ true
  unfolding kind_allows
  export-line y e = eq-eqb y.section global e

  sound-kept : (p : ℕ) (token : List ℕ) → p < script_limit → block_place d.place ≡ block_place c.place → d.section ≡ c.section → d.language ≡ c.language → Spelt d g.nodes
      → (K : Keep) → keep (edition_of (frame_so_far g)) token ≡ K → Holds (Sound place b d) (take_kept b g p c.section c.language K)
  unfolding take_kept every
  sound-kept p token few k z w v (kept j bs) q = holds-cond (line_room b g.lines bs) (λ r.
      let y : Line = with_offset (offset_at p) (new_line (length g.nodes - 1) c.section c.language (class_number j) bs) in
      let i = t.agrees.block in
      takes (record {
        few = near.few;
        side = behind;
        marked = m;
        good = good_line b g.nodes g.lines y t.good
            (kept_line (length g.nodes) token j bs q (length g.nodes - 1) c.section c.language (offset_at p) (omega (arith, t.good.nodes.some)) t.marked.section
            t.marked.language (omega arith))
            refl r;
        spelt = v;
        agrees = record {
          block = i ∙ sym k;
          plain = λ e. w ∙ t.agrees.plain (sym k ∙ e);
          among = λ e f. rw (t.agrees.among (sym k ∙ e) (sym z ∙ f));
        };
        rust = rust-line g.mixed g.starred g.inside g.lines y t.rust (λ e. t.agrees.plain (sym i ∙ e)) (λ e f. t.agrees.among (sym i ∙ e) f);
        list = λ l.
            let o = t.list (was_list l) in
            record {
              one = o.one;
              global_yet = z ∙ o.global_yet;
              globals = every_append (kind_allows export) g.lines (y ∷ []) o.globals (rw (export-line y o.global_yet));
            };
      })) refuses
  sound-kept p token few k z w v (refused x) q = refuses

-- ---- each event
no_semicolons : (s : List ℕ) (p n : ℕ) → ((i : ℕ) → i < n → eqb (get_or s (p + i) 0) semicolon ≡ false) → every no_semicolon (part s p n) ≡ true
no_semicolons s p n f = every-part s p n no_semicolon (λ i h. rw (f i h))

-- the event e of the text s, from c to d
pub record Turn (s : List ℕ) (c : Cursor) (e : Event) (d : Cursor) : Type 0 where
  pub parts : Parts s e
  pub marked : Marked d
  pub origin : Origin s c e d
  pub near : Near c d.place
  pub spans : Spans c e d
  pub onward : c.at < d.at
  pub short : d.at ≤ script_limit

module _ (place : Place) (b : Buffers) (s : List ℕ) (c : Cursor) (g : Building) (t : Sound place b c g) where
  pub sound_event : (e : Event) (d : Cursor) → Turn s c e d → Holds (Sound place b d) (take_event b s g e)
  unfolding take_event
  sound_event e d r = go e d r.parts r.marked r.origin r.near r.spans r.onward r.short
    where
      go : (e : Event) (d : Cursor) → Parts s e → Marked d → Origin s c e d → Near c d.place → Spans c e d → c.at < d.at → d.at ≤ script_limit
          → Holds (Sound place b d) (take_event b s g e)
      go e d (node i) m (origin.node {p} {n} l h k) r w o x =
          sound-node place b c d g t m r p (part s p n) l h refl refl (name_is_read s p n i k)
          (spelt-node c d g.nodes p n w (part s p n) (part_length s p n) t.spelt)
      go e d i m (origin.body h k) r w o x = takes (stays place b c d g t m r h k refl (λ _. refl) (spelt-body c d g.nodes w o t.spelt))
      go e d i m (origin.section l h) r w o x =
          takes (stays place b c d g t m r h h refl (λ j. absurd (true≢false (sym l ∙ j))) (spelt-stays c d g.nodes w o t.spelt))
      go e d i m (origin.extern h k) r w o x = takes (sound-extern place b c d g t m r k refl (spelt-stays c d g.nodes w o t.spelt))
      go e d i m (origin.closed h k) r w o x = takes (sound-closed place b c d g t m r k refl refl (spelt-stays c d g.nodes w o t.spelt))
      go e d i m (origin.line {p} {n} k) r w o x =
          sound-kept place b c d g t m r p (part s p n) (omega (arith, w.some)) k refl refl (spelt-stays c d g.nodes w.stays o t.spelt)
          (keep (edition_of (frame_so_far g)) (part s p n)) refl
      go e d i m (origin.parent {p} {n} l h f) r w o x =
          sound-parent place b c d g t m r p n w x (part s p n) l h refl refl (no_semicolons s p n f) (part_length s p n)
