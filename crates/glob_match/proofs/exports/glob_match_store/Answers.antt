-- `glob_match_store` meets its contract. Assumes nothing.
use Prim.Native.Nat.{◌≤◌}
use native.Mathlib.Omega.{arith}
use Rattle.numbers.specs.Classes.{all_class}
use Rattle.numbers.specs.Limits.{token_limit}
use Rattle.glob_match.proofs.Telling.{store-refused, store-done, store-small}
use Rattle.glob_match.proofs.exports.glob_match_store.Goals as goal

pub overflow_mul-result : goal.overflow_mul-result
overflow_mul-result c =
    let small : (c.class_number.result ≤ all_class) × (c.in-Ok.stored.size ≤ token_limit) = store-small _ _ _ _ c.store_token.ensures.0 _ c.in-Ok.is _ c.class_number.ensures in
    omega (arith, small)

pub overflow_add-result : goal.overflow_add-result
overflow_add-result c =
    let small : (c.class_number.result ≤ all_class) × (c.in-Ok.stored.size ≤ token_limit) = store-small _ _ _ _ c.store_token.ensures.0 _ c.in-Ok.is _ c.class_number.ensures in
    omega (arith, small)

pub overflow_mul-result-in-Ok : goal.overflow_mul-result-in-Ok
overflow_mul-result-in-Ok c =
    let small : (c.class_number.result ≤ all_class) × (c.in-Ok.stored.size ≤ token_limit) = store-small _ _ _ _ c.store_token.ensures.0 _ c.in-Ok.is _ c.class_number.ensures in
    omega (arith, small)

pub returns-in-Ok : goal.returns-in-Ok
returns-in-Ok c =
    let a = c.store_token.ensures in
    (store-done _ _ _ _ a.0 _ c.in-Ok.is _ c.class_number.ensures, a.1)

pub returns-in-Err : goal.returns-in-Err
returns-in-Err c = (store-refused _ _ _ _ c.store_token.ensures.0 _ c.in-Err.is _ c.number.ensures, c.store_token.ensures.1)
