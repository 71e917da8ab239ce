-- `compile_glob_pattern` meets its contract. Assumes nothing.
use mathlib.Core.Path.{◌≡◌, ap, ◌∙◌}
use lib.Dec.{leb}
use lib.ListN.{length}
use Rattle.std.specs.Prelude.{Ok, Err}
use Rattle.std.proofs.lemmas.Result.{err_from_is_err_and}
use Rattle.pattern.specs.Patterns.{refusal}
use Rattle.pattern.specs.Storing.{stored}
use Rattle.storing.proofs.Answers.{glob_refused_answer, glob_refused_buffer, glob_full_answer, glob_full_buffer}
use Rattle.storing.proofs.Answers.{glob_fits, glob_room_answer, glob_room_buffer}
use Rattle.storing.proofs.compile_glob_pattern.Goals as goal

pub returns-in_err-pattern_refusal : goal.returns-in_err-pattern_refusal
returns-in_err-pattern_refusal c =
    let a = c.args in
    let p = err_from_is_err_and c.from_residual.result c.from_residual.ensures.1 in
    let asked : c.pattern_refusal.result ≡ refusal a.edition (stored a.edition a.token.now) = c.pattern_refusal.ensures in
    let n = c.in_err-pattern_refusal.field-0.0 in
    let z : c.pattern_refusal.result ≡ Err n = c.in_err-pattern_refusal.was in
    (p.1 ∙ ap Err p.2 ∙ glob_refused_answer _ a.edition a.class a.token.now _ asked n z, glob_refused_buffer _ a.edition a.class a.token.now _ asked n z)

pub returns-then-not-has_room : goal.returns-then-not-has_room
returns-then-not-has_room c =
    let a = c.args in
    let asked : c.pattern_refusal.result ≡ refusal a.edition (stored a.edition a.token.now) = c.pattern_refusal.ensures in
    let taken : c.pattern_refusal.result ≡ Ok c.in_ok-pattern_refusal.field-0 = c.in_ok-pattern_refusal.was in
    let roomy : c.has_room.result ≡ leb (length (stored a.edition a.token.now)) (length a.out.now) = c.has_room.ensures in
    search (glob_full_answer, glob_full_buffer, asked, taken, roomy)

pub copy_kept-size-requires : goal.copy_kept-size-requires
copy_kept-size-requires c =
    let a = c.args in
    let asked : c.pattern_refusal.result ≡ refusal a.edition (stored a.edition a.token.now) = c.pattern_refusal.ensures in
    let taken : c.pattern_refusal.result ≡ Ok c.in_ok-pattern_refusal.field-0 = c.in_ok-pattern_refusal.was in
    let roomy : c.has_room.result ≡ leb (length (stored a.edition a.token.now)) (length a.out.now) = c.has_room.ensures in
    search (glob_fits, asked, taken, roomy)

pub returns : goal.returns
returns c =
    let a = c.args in
    let asked : c.pattern_refusal.result ≡ refusal a.edition (stored a.edition a.token.now) = c.pattern_refusal.ensures in
    let taken : c.pattern_refusal.result ≡ Ok c.in_ok-pattern_refusal.field-0 = c.in_ok-pattern_refusal.was in
    let roomy : c.has_room.result ≡ leb (length (stored a.edition a.token.now)) (length a.out.now) = c.has_room.ensures in
    search (glob_room_answer, glob_room_buffer, asked, taken, roomy)
