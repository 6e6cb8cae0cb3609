-- `list_store` meets its contract: the opening's refusal, or the lines of its calls. Assumes nothing.
use mathlib.Core.Path.{◌≡◌, refl, ◌∙◌, ap}
use mathlib.Core.List.{[]}
use Prim.Native.Nat.{ℕ, ◌+◌, ◌<◌}
use lib.ListN.{length}
use native.Mathlib.Omega.{arith}
use Rattle.swatch.specs.Text.{breadth_all}
use Rattle.swatch.proofs.Stores.{store-refused, store-accepted, no_lists_open, no_lists_calls, no_lists_places, few-places}
use borrow.Author.Rules.{rules}
use Rattle.swatch.proofs.list_store.Goals as goal

pub overflow_add-calls : goal.overflow_add-calls
overflow_add-calls c =
    let low : (length c.args.store.now < 18446744073709551616) × (length c.args.tips.now < 18446744073709551616) = (search rules, search rules) in
    let x = c.args in
    let none = c.nothing-none.ensures in
    omega (arith, c.capacity-calls.ensures [] breadth_all refl, no_lists_places x.store.now x.tips.now none, few-places x.store.now x.tips.now, low)

pub returns-in-Err : goal.returns-in-Err
returns-in-Err c = store-refused (no_lists_open c.nothing-none.ensures c.breadth_all.ensures c.open-o.ensures) c.in-Err.is c.refusal.ensures

pub returns-in-Ok : goal.returns-in-Ok
returns-in-Ok c =
    let none = c.nothing-none.ensures in
    let x = c.args in
    let n : _ ≡ _ = ap (λ (j : ℕ). j + 2) (c.capacity-calls.ensures [] breadth_all refl ∙ no_lists_places x.store.now x.tips.now none) in
    store-accepted (no_lists_open none c.breadth_all.ensures c.open-o.ensures) c.in-Ok.is n (no_lists_calls none c.list_calls.ensures)
