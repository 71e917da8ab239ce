-- `number_at` meets its contract. Assumes nothing.
use native.Mathlib.Omega.{arith}
use Rattle.std.proofs.Common.{rules, ◌≡◌, ◌<◌, ◌+◌, ◌-◌, ◌*◌, ◌∙◌, sym, length, get_or, refl, lit<}
use Rattle.desk_commands.proofs.Numbers.{digit_low, end_fits, is_number, no_digit, too_large, worth_next}
use Rattle.desk_commands.proofs.parts.number_at.Goals as goal

pub returns-then-is_empty : goal.returns-then-is_empty
returns-then-is_empty c =
    let none : length c.digits_at-digits.result.now ≡ 0 = search rules in
    no_digit _ _ _ c.digits_at-digits.ensures none

pub loop-b-init : goal.loop-b-init
loop-b-init c = record { below = lit< tt; rest = refl }

pub returns-in_err-checked_mul : goal.returns-in_err-checked_mul
returns-in_err-checked_mul c =
    c.from_residual.ensures ∙ too_large _ _ _ c.digits_at-digits.ensures _ _ c.loop-b.invariant.rest c.loop-b-test.true (λ k. c.in_err-checked_mul.ensures (omega arith))

pub overflow_sub-b : goal.overflow_sub-b
overflow_sub-b c = digit_low _ _ _ c.digits_at-digits.ensures c.loop-b-test.true

pub returns-in_err-value : goal.returns-in_err-value
returns-in_err-value c =
    c.from_residual-in_err-value.ensures ∙ too_large _ _ _ c.digits_at-digits.ensures _ _ c.loop-b.invariant.rest c.loop-b-test.true (λ k. c.in_err-value.ensures (omega (arith, k, c.in_ok-checked_mul.ensures, c.from.ensures)))

pub loop-b-preserved : goal.loop-b-preserved
loop-b-preserved c =
    let d = get_or c.digits_at-digits.result.now c.loop-b.b-index 0 in
    let value : c.in_ok-value.value ≡ c.loop-b.value * 10 + (d - 48) = omega (arith, c.in_ok-value.ensures, c.in_ok-checked_mul.ensures, c.from.ensures) in
    record { below = omega (arith, c.in_ok-value.ensures); rest = rw value (sym (worth_next _ _ _ c.loop-b-test.true) ∙ c.loop-b.invariant.rest) }

pub overflow_add-result : goal.overflow_add-result
overflow_add-result c =
    let some : 0 < length c.digits_at-digits.result.now = search rules in
    end_fits c.args.line.now c.args.at _ c.digits_at-digits.ensures some (omega (arith, c.well_formed))

pub returns : goal.returns
returns c =
    let some : 0 < length c.digits_at-digits.result.now = search rules in
    is_number _ _ _ c.digits_at-digits.ensures _ _ c.loop-b.invariant.rest (omega (arith, c.loop-b-test.false)) some c.loop-b.invariant.below
