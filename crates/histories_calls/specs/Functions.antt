-- The library's functions: the counts are a value, and the five buffers are slices. `add`, `strike`, `settle` and `add_symbol` are given the counts and answer
-- those of the book behind the edit, or the number that says no; of undo there is one like them, and one that the counts are lent to. Assumes nothing.
use Rattle.std.specs.Prelude.{ℕ, ◌≡◌, List, Result, Ok, Err}
use Rattle.book.specs.declared.Counts.{Counts}
use Rattle.book.specs.Layout.{Buffers, five}
use Rattle.book.specs.Lending.{buffers_of}
use Rattle.book_opening.specs.declared.How.{How}
use Rattle.book_opening.specs.declared.Opened.{Opened}
use Rattle.book_opening.specs.Opening.{as_list, as_script}
use Rattle.ranking.specs.Matching.{name_of}
use Rattle.lookups.specs.Lookups.{bytes_of}
use Rattle.trial.specs.Changes.{edit_refusal}
use Rattle.uniqueness.specs.Promises.{Undo}
use Rattle.histories.specs.Histories.{Call, adds, adds_symbol, settles, strikes, undoes, Lent}
use Rattle.histories_calls.specs.Interfaces.{Interface, RunOf, SeenEdit, SeenOpening, SeenQuestion, exit}
use Rattle.version_script.specs.contracts.open as script_open
use Rattle.version_script.proofs.open.Reads as script_open_reads
use Rattle.export_list.specs.contracts.open as list_open
use Rattle.export_list.proofs.open.Reads as list_open_reads
use Rattle.trial_add.specs.contracts.add
use Rattle.trial_add.proofs.add.Reads as add_reads
use Rattle.trial_strike.specs.contracts.strike
use Rattle.trial_strike.proofs.strike.Reads as strike_reads
use Rattle.trial_undo.specs.contracts.undo
use Rattle.trial_undo.specs.contracts.undo_latest
use Rattle.trial_undo.proofs.undo_latest.Reads as undo_latest_reads
use Rattle.trial_settle.specs.contracts.settle
use Rattle.trial_settle.proofs.settle.Reads as settle_reads
use Rattle.trial_symbols.specs.contracts.add_symbol
use Rattle.trial_symbols.proofs.add_symbol.Reads as add_symbol_reads
use Rattle.lookups.specs.contracts.version_lookup.version_for_symbol
use Rattle.lookups.proofs.version_lookup.version_for_symbol.Reads as version_for_symbol_reads
use Rattle.lookups.specs.contracts.locality_lookup.locality
use Rattle.lookups.proofs.locality_lookup.locality.Reads as locality_reads
use Rattle.export_list.specs.contracts.lookups.contains
use Rattle.export_list.proofs.lookups.contains.Reads as contains_reads

-- ---- openings
pub data OpeningRun : Type 0 where
  script : RunOf script_open.ended script_open_reads.Post → OpeningRun
  list : RunOf list_open.ended list_open_reads.Post → OpeningRun

-- the counts are those that are answered
abbrev pub opening_seen : How → Buffers → List ℕ → Opened → Buffers → SeenOpening Lent
opening_seen how b s r b' = record { how = how; buffers = b; text = s; number = r.refusal; left = record { counts = r.counts; buffers = b' } }

abbrev pub opens : OpeningRun → SeenOpening Lent
opens (script f) =
    let (s, (n, (m, (l, (p, (j, _)))))) = f.given in
    let (_, (n', (m', (l', (p', (j', _)))))) = exit f in
    opening_seen as_script (five n.now m.now l.now p.now j.now) s.now f.answered (five n'.now m'.now l'.now p'.now j'.now)
opens (list f) =
    let (s, (n, (m, (l, (p, (j, _)))))) = f.given in
    let (_, (n', (m', (l', (p', (j', _)))))) = exit f in
    opening_seen as_list (five n.now m.now l.now p.now j.now) s.now f.answered (five n'.now m'.now l'.now p'.now j'.now)

-- ---- edits. Of `undo`, to which the counts are lent, the promise is the one that its clauses are shown to say (`undo-says` of `uniqueness`)
pub data EditRun : Type 0 where
  add_run : RunOf add.ended add_reads.Post → EditRun
  strike_run : RunOf strike.ended strike_reads.Post → EditRun
  undo_run : RunOf undo.ended Undo → EditRun
  undo_latest_run : RunOf undo_latest.ended undo_latest_reads.Post → EditRun
  settle_run : RunOf settle.ended settle_reads.Post → EditRun
  add_symbol_run : RunOf add_symbol.ended add_symbol_reads.Post → EditRun

-- the counts behind an edit to which c were given: those that it answers, or where it is refused c again
abbrev pub counts_behind : Counts → Result Counts ℕ → Counts
counts_behind c (Ok d) = d
counts_behind c (Err n) = c

abbrev pub edit_seen : Counts → Buffers → Call → Result Counts ℕ → Buffers → SeenEdit Lent
edit_seen c b k r b' = record {
  lent = record { counts = c; buffers = b };
  call = k;
  number = edit_refusal r;
  left = record { counts = counts_behind c r; buffers = b' };
}

abbrev pub edits : EditRun → SeenEdit Lent
edits (add_run f) =
    let (c, (n, (m, (l, (p, (j, (node, (section, (language, (t, _)))))))))) = f.given in
    let (_, (_, (_, (l', (p', (j', _)))))) = exit f in
    edit_seen c (five n.now m.now l.now p.now j.now) (adds node section language t.now) f.answered
    (five n.now m.now l'.now p'.now j'.now)
edits (strike_run f) =
    let (c, (n, (m, (l, (p, (j, (i, _))))))) = f.given in
    let (_, (_, (_, (l', (_, (j', _)))))) = exit f in
    edit_seen c (five n.now m.now l.now p.now j.now) (strikes i) f.answered (five n.now m.now l'.now p.now j'.now)
edits (undo_run f) =
    let (c, (n, (m, (l, (p, (j, _)))))) = f.given in
    let (c', (_, (_, (l', (p', (j', _)))))) = exit f in
    record {
      lent = record { counts = c.now; buffers = five n.now m.now l.now p.now j.now };
      call = undoes;
      number = f.answered;
      left = record { counts = c'.now; buffers = five n.now m.now l'.now p'.now j'.now };
    }
edits (undo_latest_run f) =
    let (c, (n, (m, (l, (p, (j, _)))))) = f.given in
    let (_, (_, (_, (l', (p', (j', _)))))) = exit f in
    edit_seen c (five n.now m.now l.now p.now j.now) undoes f.answered (five n.now m.now l'.now p'.now j'.now)
edits (settle_run f) =
    let (c, (n, (m, (l, (p, (j, _)))))) = f.given in
    let (_, (_, (_, (l', (p', (j', _)))))) = exit f in
    edit_seen c (five n.now m.now l.now p.now j.now) settles f.answered (five n.now m.now l'.now p'.now j'.now)
edits (add_symbol_run f) =
    let (c, (n, (m, (l, (p, (j, (t, (bare, _)))))))) = f.given in
    let (_, (_, (_, (l', (p', (j', _)))))) = exit f in
    edit_seen c (five n.now m.now l.now p.now j.now) (adds_symbol t.now bare) f.answered (five n.now m.now l'.now p'.now j'.now)

-- ---- questions
abbrev pub question_seen : {Q A : Type 0} → Counts → Buffers → Q → A → SeenQuestion Lent Q A
question_seen c b q r = record { lent = record { counts = c; buffers = b }; asked = q; answers = λ a. r ≡ a }

abbrev pub VersionRun : Type 0
VersionRun = RunOf version_for_symbol.ended version_for_symbol_reads.Post

abbrev pub LocalityRun : Type 0
LocalityRun = RunOf locality.ended locality_reads.Post

abbrev pub MemberRun : Type 0
MemberRun = RunOf contains.ended contains_reads.Post

abbrev pub library : Interface
library = record {
  Holding = Lent;
  holding = λ x. x;
  OpeningRun = OpeningRun;
  opens = opens;
  EditRun = EditRun;
  edits = edits;
  VersionRun = VersionRun;
  version = λ f.
      let (b, (raw, (demangled, (wanted, _)))) = f.given in
      question_seen b.counts (buffers_of b) (name_of raw.now demangled.now, bytes_of wanted) f.answered;
  LocalityRun = LocalityRun;
  locality = λ f.
      let (b, (raw, (demangled, _))) = f.given in
      question_seen b.counts (buffers_of b) (name_of raw.now demangled.now) f.answered;
  MemberRun = MemberRun;
  member = λ f.
      let (b, (raw, (demangled, _))) = f.given in
      question_seen b.counts (buffers_of b) (name_of raw.now demangled.now) f.answered;
}
