-- Calls to the end and `list` give the opening's list, so the order is kept by them. Assumes nothing.
use mathlib.Core.Path.{◌≡◌, sym, ◌∙◌, ap, subst}
use Prim.Native.Nat.{ℕ, zero, suc, ◌*◌, ◌≤◌}
use mathlib.Core.List.{List, [], ◌∷◌, map}
use native.Mathlib.Omega.{arith}
use lib.ListN.{length, take}
use lib.Seq.{take_all}
use Rattle.hash.specs.Bytes.{Id, ids_of}
use Rattle.hash.proofs.Widths.{width-most}
use Rattle.walk.specs.Opening.{Input, width_in}
use Rattle.walk.specs.Next.{Answer}
use Rattle.walk.specs.Calls.{answer_at_call, answers}
use Rattle.walk.specs.Reach.{Mem}
use Rattle.walk.specs.Demand.{Delivers}
use Rattle.walk.specs.Given.{given}
use Rattle.walk.proofs.Named.{fits}
use Rattle.walk.proofs.Calls.{answers_at}
use Rattle.traverse.specs.Demand.{Call, answers_of, handed_out, OfTheWalk}
use Rattle.traverse.proofs.Numbered.{length_up_to, hands-ids, given-ids}
use Rattle.traverse.proofs.Calls.{answers-up_to}
use Rattle.traverse.proofs.Wide.{answers-wide}
use Rattle.traverse.proofs.ThirdDemand.{third_demand}
use Rattle.driver.specs.Walked.{whole_list}
use Rattle.lister.proofs.Demanded.{list_demand}
use Rattle.hiding.specs.Hiding.{Tested}
use Rattle.hiding.specs.Called.{Walked, ids_handed, SetDown, ids_set_down}
use Rattle.hiding.proofs.Called.{walked_leaves}
use Rattle.hidingorder.specs.Order.{HidingKeepsOrder}
use Rattle.hidingorder.proofs.Kept.{whole_is, delivered, order-kept}

take_short : (n : ℕ) (l : List Id) → length (take n l) ≤ n
take_short zero l = omega arith
take_short (suc n) [] = omega arith
take_short (suc n) (x ∷ l) = omega (arith, take_short n l)

-- answers of the walk hand out the front of its list
front_of : (i : Input) (d : Delivers i) (cs : List Call) → OfTheWalk i cs → handed_out (width_in i) (answers_of cs) ≡ take (length cs) d.list
unfolding OfTheWalk
front_of i d cs s =
    let n : length (answers i (length cs)) ≡ length cs = ap (λ (l : List Answer). length l) (answers_at i (length cs)) ∙ length_up_to (answer_at_call i) (length cs) in
    ap (handed_out (width_in i)) (answers-up_to (answer_at_call i) cs s ∙ ap (λ (l : List Answer). map given l) (sym (answers_at i (length cs))))
    ∙ given-ids (width_in i) (width-most i.settings.kind) (answers i (length cs)) (answers-wide i (length cs)) ∙ hands-ids d.list (answers i (length cs)) (d.handed_out (length cs)) ∙ ap (λ (k : ℕ). take k d.list) n

-- a front that has all of a list without repeats is the list
pub walked_whole : (i : Input) → Tested i → (d : Walked i) → ids_handed i d ≡ whole_list i
walked_whole i t d =
    let g = delivered i t in
    let s = ((third_demand i d.lent).demanded d.opened d.left d.opens t.fits d.room t.premises).every-list d.calls d.called in
    let f = front_of i g d.calls s.of_the_walk in
    let e = (walked_leaves i t d).exactly in
    let l : length g.list ≤ length (take (length d.calls) g.list) =
    fits g.list (take (length d.calls) g.list) g.different (λ x m. subst (λ (q : List Id). Mem x q) f ((e x).1 ((g.exactly x).0 m))) in
    f ∙ take_all (length d.calls) g.list (omega (arith, take_short (length d.calls) g.list)) ∙ sym (whole_is i g)

pub set_whole : (i : Input) → Tested i → (d : SetDown i) → ids_set_down i d ≡ whole_list i
set_whole i t d =
    let l = list_demand i d.lent d.ids in
    let g = l.demanded d.listing d.left d.ids-left d.lists t.fits d.room t.premises in
    let a = l.any_accepted d.listing d.left d.ids-left d.lists g.accepted in
    let r : width_in i * length (whole_list i) ≤ length d.ids = subst (λ (n : ℕ). width_in i * n ≤ length d.ids) a.commits d.room_for-ids in
    ap (λ (n : ℕ). ids_of (width_in i) n d.ids-left) a.commits ∙ a.in_ids.whole r

pub hiding_keeps_order : (i : Input) → HidingKeepsOrder i
hiding_keeps_order i = record { of_calls = order-kept Walked ids_handed walked_whole i; of_list = order-kept SetDown ids_set_down set_whole i }
