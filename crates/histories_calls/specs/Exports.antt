-- The exported functions that open, edit and look up, as a C, C++ or Rust program calls them (include/tunoyaket.h): the counts are six numbers in a buffer
-- like the other five, an edit writes them, and a question writes its value into a buffer. Assumes nothing.
use Rattle.std.specs.Prelude.{ℕ, List}
use Rattle.book.specs.Layout.{Buffers, five}
use Rattle.book_opening.specs.declared.How.{How}
use Rattle.book_opening.specs.Opening.{as_list, as_script}
use Rattle.ranking.specs.Matching.{name_of}
use Rattle.lookups.specs.Lookups.{locality_value, version_value, wanted_of}
use Rattle.numbers.specs.Saying.{refusal_of}
use Rattle.export_list.specs.Membership.{membership_value}
use Rattle.c_lending.specs.Calls.{Replies, counts_row, flag}
use Rattle.histories.specs.Histories.{Call, adds, adds_symbol, settles, strikes, undoes, Lent}
use Rattle.histories_calls.specs.Interfaces.{Interface, RunOf, SeenEdit, SeenOpening, SeenQuestion, exit}
use Rattle.c_api.specs.contracts.openings.tuno_open_version_script
use Rattle.c_api.proofs.openings.tuno_open_version_script.Reads as tuno_open_version_script_reads
use Rattle.c_api.specs.contracts.openings.tuno_open_export_list
use Rattle.c_api.proofs.openings.tuno_open_export_list.Reads as tuno_open_export_list_reads
use Rattle.c_api.specs.contracts.edits.tuno_add
use Rattle.c_api.proofs.edits.tuno_add.Reads as tuno_add_reads
use Rattle.c_api.specs.contracts.edits.tuno_strike
use Rattle.c_api.proofs.edits.tuno_strike.Reads as tuno_strike_reads
use Rattle.c_api.specs.contracts.edits.tuno_undo
use Rattle.c_api.proofs.edits.tuno_undo.Reads as tuno_undo_reads
use Rattle.c_api.specs.contracts.edits.tuno_settle
use Rattle.c_api.proofs.edits.tuno_settle.Reads as tuno_settle_reads
use Rattle.c_api.specs.contracts.edits.tuno_add_symbol
use Rattle.c_api.proofs.edits.tuno_add_symbol.Reads as tuno_add_symbol_reads
use Rattle.c_api.specs.contracts.questions.tuno_version_for_symbol
use Rattle.c_api.proofs.questions.tuno_version_for_symbol.Reads as tuno_version_for_symbol_reads
use Rattle.c_api.specs.contracts.questions.tuno_locality
use Rattle.c_api.proofs.questions.tuno_locality.Reads as tuno_locality_reads
use Rattle.c_api.specs.contracts.questions.tuno_contains
use Rattle.c_api.proofs.questions.tuno_contains.Reads as tuno_contains_reads

-- six buffers, the counts first
pub record Six : Type 0 where
  pub counts : List ℕ
  pub buffers : Buffers

-- "kind, nodes, name bytes, lines, pool bytes, edits"
abbrev pub in_six : Lent → Six
in_six x = record { counts = counts_row x.counts; buffers = x.buffers }

-- ---- openings: 0, or the refusal's number and 256 times its place
pub data OpeningRun : Type 0 where
  script : RunOf tuno_open_version_script.ended tuno_open_version_script_reads.Post → OpeningRun
  list : RunOf tuno_open_export_list.ended tuno_open_export_list_reads.Post → OpeningRun

abbrev pub opening_seen : How → Buffers → List ℕ → ℕ → List ℕ → Buffers → SeenOpening Six
opening_seen how b s r c' b' = record { how = how; buffers = b; text = s; number = r; left = record { counts = c'; buffers = b' } }

abbrev pub opens : OpeningRun → SeenOpening Six
opens (script f) =
    let (s, (_, (n, (m, (l, (p, (j, _))))))) = f.given in
    let (_, (c', (n', (m', (l', (p', (j', _))))))) = exit f in
    opening_seen as_script (five n.now m.now l.now p.now j.now) s.now f.answered c'.now (five n'.now m'.now l'.now p'.now j'.now)
opens (list f) =
    let (s, (_, (n, (m, (l, (p, (j, _))))))) = f.given in
    let (_, (c', (n', (m', (l', (p', (j', _))))))) = exit f in
    opening_seen as_list (five n.now m.now l.now p.now j.now) s.now f.answered c'.now (five n'.now m'.now l'.now p'.now j'.now)

-- ---- edits: 0, or the refusal's number
pub data EditRun : Type 0 where
  add_run : RunOf tuno_add.ended tuno_add_reads.Post → EditRun
  strike_run : RunOf tuno_strike.ended tuno_strike_reads.Post → EditRun
  undo_run : RunOf tuno_undo.ended tuno_undo_reads.Post → EditRun
  settle_run : RunOf tuno_settle.ended tuno_settle_reads.Post → EditRun
  add_symbol_run : RunOf tuno_add_symbol.ended tuno_add_symbol_reads.Post → EditRun

abbrev pub edit_seen : List ℕ → Buffers → Call → ℕ → List ℕ → Buffers → SeenEdit Six
edit_seen c b k r c' b' = record { lent = record { counts = c; buffers = b }; call = k; number = r; left = record { counts = c'; buffers = b' } }

abbrev pub edits : EditRun → SeenEdit Six
edits (add_run f) =
    let (c, (n, (m, (l, (p, (j, (node, (section, (language, (t, _)))))))))) = f.given in
    let (c', (_, (_, (l', (p', (j', _)))))) = exit f in
    edit_seen c.now (five n.now m.now l.now p.now j.now) (adds node section language t.now) f.answered
    c'.now (five n.now m.now l'.now p'.now j'.now)
edits (strike_run f) =
    let (c, (n, (m, (l, (p, (j, (i, _))))))) = f.given in
    let (c', (_, (_, (l', (_, (j', _)))))) = exit f in
    edit_seen c.now (five n.now m.now l.now p.now j.now) (strikes i) f.answered c'.now (five n.now m.now l'.now p.now j'.now)
edits (undo_run f) =
    let (c, (n, (m, (l, (p, (j, _)))))) = f.given in
    let (c', (_, (_, (l', (p', (j', _)))))) = exit f in
    edit_seen c.now (five n.now m.now l.now p.now j.now) undoes f.answered c'.now (five n.now m.now l'.now p'.now j'.now)
edits (settle_run f) =
    let (c, (n, (m, (l, (p, (j, _)))))) = f.given in
    let (c', (_, (_, (l', (p', (j', _)))))) = exit f in
    edit_seen c.now (five n.now m.now l.now p.now j.now) settles f.answered c'.now (five n.now m.now l'.now p'.now j'.now)
edits (add_symbol_run f) =
    let (c, (n, (m, (l, (p, (j, (t, (bare, _)))))))) = f.given in
    let (c', (_, (_, (l', (p', (j', _)))))) = exit f in
    edit_seen c.now (five n.now m.now l.now p.now j.now) (adds_symbol t.now (flag bare)) f.answered
    c'.now (five n.now m.now l'.now p'.now j'.now)

-- ---- questions: the refusal's number, or 0 and the value in `out`
abbrev pub question_seen : {Q A : Type 0} → List ℕ → Buffers → Q → (A → Type 0) → SeenQuestion Six Q A
question_seen c b q answers = record { lent = record { counts = c; buffers = b }; asked = q; answers = answers }

abbrev pub VersionRun : Type 0
VersionRun = RunOf tuno_version_for_symbol.ended tuno_version_for_symbol_reads.Post

abbrev pub LocalityRun : Type 0
LocalityRun = RunOf tuno_locality.ended tuno_locality_reads.Post

abbrev pub MemberRun : Type 0
MemberRun = RunOf tuno_contains.ended tuno_contains_reads.Post

abbrev pub exports : Interface
exports = record {
  Holding = Six;
  holding = in_six;
  OpeningRun = OpeningRun;
  opens = opens;
  EditRun = EditRun;
  edits = edits;
  VersionRun = VersionRun;
  version = λ f.
      let (c, (n, (m, (l, (p, (j, (raw, (demangled, (has, (wanted, (out, _))))))))))) = f.given in
      let (_, (_, (_, (_, (_, (_, (_, (_, (_, (_, (out', _))))))))))) = exit f in
      question_seen c.now (five n.now m.now l.now p.now j.now) (name_of raw.now demangled.now, wanted_of (flag has) wanted.now)
      (λ a. Replies refusal_of version_value a out.now f.answered out'.now);
  LocalityRun = LocalityRun;
  locality = λ f.
      let (c, (n, (m, (l, (p, (j, (raw, (demangled, (out, _))))))))) = f.given in
      let (_, (_, (_, (_, (_, (_, (_, (_, (out', _))))))))) = exit f in
      question_seen c.now (five n.now m.now l.now p.now j.now) (name_of raw.now demangled.now)
      (λ a. Replies refusal_of locality_value a out.now f.answered out'.now);
  MemberRun = MemberRun;
  member = λ f.
      let (c, (n, (m, (l, (p, (j, (raw, (demangled, (out, _))))))))) = f.given in
      let (_, (_, (_, (_, (_, (_, (_, (_, (out', _))))))))) = exit f in
      question_seen c.now (five n.now m.now l.now p.now j.now) (name_of raw.now demangled.now)
      (λ a. Replies refusal_of membership_value a out.now f.answered out'.now);
}
