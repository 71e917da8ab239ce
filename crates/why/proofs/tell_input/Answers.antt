-- `tell_input` meets its contract: the script before the mark, and the symbols behind it. Assumes nothing.
use Prim.Native.Nat.{◌≤◌}
use native.Mathlib.Omega.{arith}
use lib.ListN.{length}
use Rattle.std.proofs.lemmas.Result.{IfOk-weaker, on_err_weaker}
use Rattle.printing_listing.specs.Listing.{verlist_room}
use Rattle.printing_listing.proofs.Inputs.{script-count, script-within, symbols-within}
use Rattle.why.proofs.Inputs.{parts-stop, parts-told, too_long-stops, too_long-told}
use Rattle.why.proofs.tell_input.Goals as goal

pub returns-then-input-gt-INPUT_LIMIT : goal.returns-then-input-gt-INPUT_LIMIT
returns-then-input-gt-INPUT_LIMIT g c = record {
  ok = IfOk-weaker _ _ _ (λ n. too_long-told verlist_room c.args.input.now _ c.if-input-gt-INPUT_LIMIT.true) c.refuse.ensures.ok;
  err = on_err_weaker _ (too_long-stops verlist_room c.args.input.now _ c.if-input-gt-INPUT_LIMIT.true) c.refuse.ensures.err;
}

pub symbols_start-from-requires : goal.symbols_start-from-requires
symbols_start-from-requires g c = script-within _ _ c.script_end-end.ensures

pub slice_bounds-tell_parts-end : goal.slice_bounds-tell_parts-end
slice_bounds-tell_parts-end g c = script-count _ _ c.script_end-end.ensures

pub slice_bounds-tell_parts-count : goal.slice_bounds-tell_parts-count
slice_bounds-tell_parts-count g c =
    let within : (c.script_end-end.result ≤ length (c.args.input.now)) × (c.symbols_start-from.result ≤ length (c.args.input.now)) = let e = c.script_end-end.ensures in
    (script-within (c.args.input.now) _ e, symbols-within (c.args.input.now) _ e _ c.symbols_start-from.ensures) in
    omega (arith, within)

pub slice_bounds-tell_parts-start : goal.slice_bounds-tell_parts-start
slice_bounds-tell_parts-start g c =
    let within : (c.script_end-end.result ≤ length (c.args.input.now)) × (c.symbols_start-from.result ≤ length (c.args.input.now)) = let e = c.script_end-end.ensures in
    (script-within (c.args.input.now) _ e, symbols-within (c.args.input.now) _ e _ c.symbols_start-from.ensures) in
    omega (arith, within)

pub returns : goal.returns
returns g c = record {
  ok = IfOk-weaker _ _ _
      (λ n. parts-told verlist_room c.args.input.now _ c.if-input-gt-INPUT_LIMIT.false _ c.script_end-end.ensures _ c.symbols_start-from.ensures)
      c.tell_parts.ensures.ok;
  err = on_err_weaker _
      (parts-stop verlist_room c.args.input.now _ c.if-input-gt-INPUT_LIMIT.false _ c.script_end-end.ensures _ c.symbols_start-from.ensures)
      c.tell_parts.ensures.err;
}
