-- Whatever the desk's lines reach is a book in the rooms that were lent, and so no line lacks room (specs/Rounds.antt). Each command is a call of a history or
-- changes nothing, and a book of the Rust kind stays as it was opened. Assumes nothing.
use Prim.Native.Nat.{ℕ, ◌+◌, ◌≤◌}
use mathlib.Core.Path.{◌≡◌, refl, sym, ap, subst, ◌∙◌}
use mathlib.Core.List.{List, [], ◌∷◌, ◌++◌}
use mathlib.Core.Bool.{Bool, true, false}
use Rattle.std.specs.Prelude.{Option, Some, None}
use native.Mathlib.Omega.{arith}
use borrow.Author.Tests.{eqb-true, le-leb}
use lib.Dec.{eqb}
use lib.ListN.{length, drop}
use Rattle.lists.proofs.Tests.{both}
use Rattle.lists.specs.Each.{every}
use Rattle.input.specs.Splitting.{input_limit}
use Rattle.book.specs.Books.{Book, rust}
use Rattle.book.specs.Edits.{all_back, journal_fits, stands}
use Rattle.book.specs.Layout.{Buffers, counts_of, laid_out}
use Rattle.book.specs.Sanity.{kind_good, nodes_good, sane}
use Rattle.book.specs.View.{Fits, view}
use Rattle.book.proofs.Views.{Rooms, laid_out-rooms, laid_out_same, layout_of_view, view_of_layout}
use Rattle.book_opening.specs.declared.How.{How}
use Rattle.book_opening.specs.Opening.{left, opening, told}
use Rattle.book_opened.proofs.Opened.{Viewable, opened-viewable}
use Rattle.trial.specs.Changes.{after, counts_after}
use Rattle.trial.specs.Trial.{add_asked, settle_asked, settled, strike_asked, undo_asked}
use Rattle.trial.specs.Symbols.{symbol_asked}
use Rattle.histories.specs.Histories.{Call, adds, adds_symbol, settles, strikes, undoes, Desk, Lent, change, desk_at, lent_after}
use Rattle.histories.specs.Demand.{lent_book, lent_opening}
use Rattle.histories.proofs.Calls as calls
use Rattle.histories.proofs.Calls.{Held, seen}
use Rattle.histories.proofs.EachCall.{held_after}
use Rattle.histories.proofs.Demand.{held-opened, opened-edits}
use Rattle.desk_commands.specs.declared.Command.{Command}
use Rattle.desk_commands.specs.declared.Command.TheVariants as command
use Rattle.desk_commands.specs.declared.Edit.TheVariants as edit
use Rattle.desk.specs.Edits.{edit_asked, edit_step}
use Rattle.desk.specs.Questions.{question_step}
use Rattle.desk_commands.specs.Commands.{command_of}
use Rattle.printing_book.specs.Shown.{shown_room}
use Rattle.desk.specs.Answers.{Step}
use Rattle.desk.specs.Desk.{has_room, line_step, step}
use Rattle.rounds.specs.Rounds.{DeskRooms, NoLineLacksRoom, Reached, line_lent, lines_lent, printing_room}

-- what a command leaves
abbrev lent_step : Step → Lent
lent_step s = record { counts = s.counts; buffers = s.left }

-- ---- a Regular script or an export list: some desk is held
record Seated (b : Buffers) (w : Book) (x : Lent) : Type 0 where
  desk : Desk
  held : Held b w desk x

module _ (s : List ℕ) (b : Buffers) (w : Book) (k : eqb w.kind rust ≡ false) where
  seated_call : (x : Lent) → Seated b w x → (q : Call) → Seated b w (lent_after x q)
  seated_call x t q = record { desk = _; held = held_after b w k t.desk x t.held q }

  seated_step : (x : Lent) → Seated b w x → (l : List ℕ) (m : Option Command)
      → Seated b w (lent_step (step s x.counts x.buffers (view x.counts x.buffers) l m))
  unfolding step edit_step edit_asked question_step lent_after change
  seated_step x t l (Some (command.Edits (edit.Add node section language at))) = seated_call x t (adds node section language (drop at l))
  seated_step x t l (Some (command.Edits (edit.Strike line))) = seated_call x t (strikes line)
  seated_step x t l (Some (command.Edits edit.Undo)) = seated_call x t undoes
  seated_step x t l (Some (command.Edits edit.Settle)) = seated_call x t settles
  seated_step x t l (Some (command.Edits (edit.Symbol at bare))) = seated_call x t (adds_symbol (drop at l) bare)
  seated_step x t l (Some (command.Asks q)) = t
  seated_step x t l None = t

  seated_lines : (ls : List (List ℕ)) (x : Lent) → Seated b w x → Seated b w (lines_lent s x ls)
  unfolding lines_lent line_step
  seated_lines [] x t = t
  seated_lines (l ∷ ls) x t = seated_lines ls (line_lent s x l) (seated_step x t l (command_of l))

-- ---- a book of the Rust kind, which has no edit: every edit is refused, and a settle finds no line struck
module _ (s : List ℕ) (b : Buffers) (w : Book) (k : eqb w.kind rust ≡ true) (v : Viewable b w) (e : w.edits ≡ []) where
  all_stand : every stands w.lines ≡ true
  unfolding sane journal_fits all_back
  all_stand =
      let j = (both (kind_good w) _ (both (nodes_good w.nodes) _ v.sane).1).1 in
      rw e at j

  stays : (l : List ℕ) (m : Option Command) → lent_step (step s (counts_of w) (laid_out b w) (Some w) l m) ≡ lent_book b w
  unfolding step edit_step edit_asked question_step add_asked strike_asked undo_asked settle_asked settled symbol_asked after counts_after
  stays l (Some (command.Edits (edit.Add node section language at))) = rw k
  stays l (Some (command.Edits (edit.Strike line))) = rw k
  stays l (Some (command.Edits edit.Undo)) = rw e
  stays l (Some (command.Edits edit.Settle)) = rw (all_stand, laid_out_same (laid_out b w) b w (laid_out-rooms b w v.fits))
  stays l (Some (command.Edits (edit.Symbol at bare))) = let z : w.kind ≡ rust = eqb-true w.kind rust k in rw z
  stays l (Some (command.Asks q)) = refl
  stays l None = refl

  stays-line : (l : List ℕ) → line_lent s (lent_book b w) l ≡ lent_book b w
  unfolding line_step
  stays-line l = rw (view_of_layout b w v.fits v.sane) (stays l (command_of l))

  stays_lines : (ls : List (List ℕ)) → lines_lent s (lent_book b w) ls ≡ lent_book b w
  unfolding lines_lent
  stays_lines [] = refl
  stays_lines (l ∷ ls) = ap (λ (y : Lent). lines_lent s y ls) (stays-line l) ∙ stays_lines ls

-- ---- either way there is a book, in buffers with the rooms of b
record Holding (b : Buffers) (x : Lent) : Type 0 where
  book : Book
  viewed : view x.counts x.buffers ≡ Some book
  rooms : Rooms x.buffers b

holding-lines : (how : How) (b : Buffers) (s : List ℕ) (w : Book) → Viewable b w → w.edits ≡ [] → (ls : List (List ℕ)) → Holding b (lines_lent s (lent_book b w) ls)
holding-lines how b s w v e ls = go (eqb w.kind rust) refl
  where
    go : (y : Bool) → eqb w.kind rust ≡ y → Holding b (lines_lent s (lent_book b w) ls)
    go true k =
        subst (Holding b) (sym (stays_lines s b w k v e ls)) (record {
          book = w;
          viewed = view_of_layout b w v.fits v.sane;
          rooms = laid_out-rooms b w v.fits;
        })
    go false k =
        let t = seated_lines s b w k ls (lent_book b w) (record { desk = desk_at w.lines; held = held-opened how b s w v e }) in
        let y : Lent = lines_lent s (lent_book b w) ls in
        record { book = _; viewed = seen b w t.desk y t.held; rooms = calls.rooms b w t.desk y t.held }

holding : (s : List ℕ) (x : Lent) (r : Reached s x) → Holding r.lent x
unfolding told left
holding s x r =
    let v = opened-viewable r.how r.lent s r.book r.known r.opened in
    let e = opened-edits r.how r.lent s r.book r.opened in
    let z : x ≡ lines_lent s (lent_book r.lent r.book) r.lines = r.behind ∙ rw r.opened in
    subst (Holding r.lent) (sym z) (holding-lines r.how r.lent s r.book v e r.lines)

-- ---- the room for what is printed of a book in the desk's rooms
shown_fits : (b : Buffers) (w : Book) → Fits b w → DeskRooms b → shown_room (counts_of w) + input_limit ≤ printing_room
unfolding shown_room counts_of
shown_fits b w f d =
    omega (arith, f.node_room, f.name_room, f.line_room, f.pool_room, f.edit_room, d.nodes, d.names, d.lines, d.pool, d.journal)

roomy-again : (a b : Buffers) → Rooms a b → DeskRooms b → DeskRooms a
roomy-again a b e d = record {
  nodes = e.nodes ∙ d.nodes;
  names = e.names ∙ d.names;
  lines = e.lines ∙ d.lines;
  pool = e.pool ∙ d.pool;
  journal = e.journal ∙ d.journal;
}

pub no_line_lacks_room : NoLineLacksRoom
unfolding has_room
no_line_lacks_room s x l out r h o =
    let g = holding s x r in
    let t = layout_of_view x.counts x.buffers g.book g.viewed in
    let f = shown_fits x.buffers g.book t.2 (roomy-again x.buffers r.lent g.rooms r.roomy) in
    rw t.0 (le-leb (shown_room (counts_of g.book) + length l) (length out) (omega (arith, f, h, o)))

-- ---- what is reached, and a line more
lines_last : (s : List ℕ) (ls : List (List ℕ)) (x : Lent) (l : List ℕ) → lines_lent s x (ls ++ l ∷ []) ≡ line_lent s (lines_lent s x ls) l
unfolding lines_lent
lines_last s [] x l = refl
lines_last s (m ∷ ls) x l = lines_last s ls (line_lent s x m) l

pub reached_on : (s : List ℕ) (x : Lent) (l : List ℕ) → Reached s x → Reached s (line_lent s x l)
reached_on s x l r = record {
  how = r.how;
  lent = r.lent;
  book = r.book;
  lines = r.lines ++ l ∷ [];
  known = r.known;
  roomy = r.roomy;
  opened = r.opened;
  behind = ap (λ (y : Lent). line_lent s y l) r.behind ∙ sym (lines_last s r.lines (lent_opening r.lent (opening r.how r.lent s)) l);
}
