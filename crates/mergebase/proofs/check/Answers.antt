-- `check` meets its contract: the first test that fails decides. Assumes nothing.
use mathlib.Core.Path.{refl, sym, ◌∙◌, ap}
use Prim.Native.Nat.{◌≤◌}
use native.Mathlib.Omega.{arith}
use lib.ListN.{length}
use Rattle.opening.specs.Checks.{lengths_of, checked_of}
use Rattle.mergebase.specs.Parting.{tips_input}
use Rattle.mergebase.proofs.Early.{tips-places, by_size, by-store, by-room, by-none}
use Rattle.mergebase.proofs.check.Goals as goal

pub returns-then-store-gt-MOST_FILE : goal.returns-then-store-gt-MOST_FILE
returns-then-store-gt-MOST_FILE c = λ a b p q. let x = c.args in sym (ap checked_of (by_size x.kind x.store.now a b (lengths_of x.names x.marks x.levels x.times x.line x.parents) c.if-store-gt-MOST_FILE.true))

pub returns-then-not-is_good : goal.returns-then-not-is_good
returns-then-not-is_good c = λ a b p q. let x = c.args in let h : length x.store.now ≤ 16777216 = omega (arith, c.if-store-gt-MOST_FILE.false) in sym (ap checked_of (by-store x.kind x.store.now a b (lengths_of x.names x.marks x.levels x.times x.line x.parents) h (sym c.is_good.ensures ∙ c.if-not-is_good.true)))

pub returns-then-not-has_room : goal.returns-then-not-has_room
returns-then-not-has_room c = λ a b p q. let x = c.args in let h : length x.store.now ≤ 16777216 = omega (arith, c.if-store-gt-MOST_FILE.false) in sym (ap checked_of (by-room x.kind x.store.now a b (lengths_of x.names x.marks x.levels x.times x.line x.parents) h (sym c.is_good.ensures ∙ c.if-not-is_good.false) (sym (c.has_room.ensures (tips_input x.kind x.store.now a b) refl (c.places.ensures ∙ sym (tips-places x.kind x.store.now a b p q))) ∙ c.if-not-has_room.true)))

pub returns : goal.returns
returns c = λ a b p q. let x = c.args in let h : length x.store.now ≤ 16777216 = omega (arith, c.if-store-gt-MOST_FILE.false) in sym (ap checked_of (by-none x.kind x.store.now a b (lengths_of x.names x.marks x.levels x.times x.line x.parents) h (sym c.is_good.ensures ∙ c.if-not-is_good.false) (sym (c.has_room.ensures (tips_input x.kind x.store.now a b) refl (c.places.ensures ∙ sym (tips-places x.kind x.store.now a b p q))) ∙ c.if-not-has_room.false)))
