-- Every id that an accepted walk names has the width of its kind: a list is cut into so many bytes each, a parent line has two digits for each, and a commit-graph file
-- of a good layout has room for each of its ids. Assumes nothing.
use Rattle.std.specs.Prelude.{None}
use mathlib.Core.Path.{◌≡◌, refl, sym, ◌∙◌, ap, subst}
use mathlib.Core.Logic.{◌⊎◌, inl, inr, ⊎_elim}
use Prim.Native.Nat.{ℕ, zero, suc, ◌*◌, ◌/◌, ◌≤◌, ◌<◌}
use mathlib.Core.Bool.{true}
use mathlib.Core.List.Memᴰ
use mathlib.Core.List.{List, [], ◌∷◌, ◌++◌}
use native.Mathlib.Omega.{arith}
use native.Mathlib.Nat.{mul-div-le}
use lib.ListN.{length, take, drop, get_or, length-take, length-drop}
use Rattle.hash.specs.Bytes.{Id, ids_of}
use Rattle.hash.proofs.Tests.{by_cases, clash}
use Rattle.hash.proofs.Widths.{width_least}
use Rattle.idlist.specs.IdList.{Stands}
use Rattle.idlist.proofs.Place.{length_id_of}
use Rattle.object.specs.Header.{Header, header}
use Rattle.object.proofs.Headers.{no_header, parent-width}
use Rattle.odb.specs.Store.{entries, body}
use Rattle.commitgraph.specs.Graph.{graph_count, graph_ids, graph_id, graph_ok}
use Rattle.commitgraph.proofs.LayoutRight.{right}
use Rattle.walk.specs.State.{State, ids, is_empty}
use Rattle.walk.specs.Opening.{Input, list_ids, refusal, open_walk, opened, width_in}
use Rattle.walk.specs.Calls.{state_after}
use Rattle.walk.specs.Universe.{parents_up_to, store_parents, row_ids, names, universe}
use Rattle.walk.specs.Reach.{Mem}
use Rattle.walk.proofs.Tips.{open_accepted}
use Rattle.walk.proofs.Whole.{accepted}
use Rattle.walk.proofs.Universe.{all_named}

abbrev Wide : ℕ → List Id → Type 0
Wide width l = (x : Id) → Mem x l → length x ≡ width

wide_nil : (width : ℕ) → Wide width []
wide_nil width x m = absurd (Memᴰ.not-nil m)

wide_cons : (width : ℕ) (y : Id) (l : List Id) → length y ≡ width → Wide width l → Wide width (y ∷ l)
wide_cons width y l h v x m = ⊎_elim (λ e. ap length e ∙ h) (v x) (Memᴰ.cases_cons m)

wide_append : (width : ℕ) (k l : List Id) → Wide width k → Wide width l → Wide width (k ++ l)
wide_append width k l v u x m = ⊎_elim (v x) (u x) (Memᴰ.append_cases k m)

-- by places
wide_at : (width : ℕ) (l : List Id) → ((k : ℕ) → k < length l → length (get_or l k []) ≡ width) → Wide width l
wide_at width [] h = wide_nil width
wide_at width (y ∷ l) h = wide_cons width y l (h 0 (omega arith)) (wide_at width l (λ k d. h (suc k) (omega arith)))

cut-wide : (width : ℕ) (k : ℕ) (b : List ℕ) → width * k ≤ length b → Wide width (ids_of width k b)
unfolding ids_of
cut-wide width zero b h = wide_nil width
cut-wide width (suc k) b h =
    wide_cons width (take width b) (ids_of width k (drop width b)) (simp length-take (omega arith)) (cut-wide width k (drop width b) (simp length-drop (omega arith)))

-- the ids of a list
pub list-wide : (width : ℕ) (b : List ℕ) → Wide width (list_ids width b)
unfolding list_ids
list-wide width b = cut-wide width (length b / width) b (mul-div-le (length b) width)

-- the parents of a body
header-wide : (width : ℕ) (b : List ℕ) → Wide width (header width b).ids
header-wide width b =
    by_cases (header width b).tree
    (λ g. wide_at width (header width b).ids (parent-width width b g))
    (λ g. subst (Wide width) (sym (ap (λ (h : Header). h.ids) (no_header width b g))) (wide_nil width))

up_to-wide : (width : ℕ) (b : List ℕ) (k : ℕ) → Wide width (parents_up_to width b k)
unfolding parents_up_to
up_to-wide width b zero = wide_nil width
up_to-wide width b (suc k) = wide_append width (parents_up_to width b k) (header width (body width b k)).ids (up_to-wide width b k) (header-wide width (body width b k))

-- the rows
ids_stand : (width : ℕ) (g : List ℕ) → 0 < width → graph_ok width g ≡ true → Stands (graph_ids width g) (graph_count g)
unfolding graph_ids
ids_stand width g p ok = record { moves = p; apart = omega arith; inside = omega (arith, (right width g ok).places.ids) }

rows-wide : (width : ℕ) (g : List ℕ) (k : ℕ) → Stands (graph_ids width g) (graph_count g) → k ≤ graph_count g → Wide width (row_ids width g k)
unfolding row_ids graph_id graph_ids
rows-wide width g zero s h = wide_nil width
rows-wide width g (suc k) s h = wide_cons width (graph_id width g k) (row_ids width g k) (length_id_of (graph_ids width g) (graph_count g) k s h) (rows-wide width g k s (omega arith))

graph-wide : (width : ℕ) (g : List ℕ) → 0 < width → (is_empty g ≡ true) ⊎ (graph_ok width g ≡ true) → Wide width (row_ids width g (graph_count g))
unfolding is_empty graph_count row_ids
graph-wide width [] p o = wide_nil width
graph-wide width (y ∷ g) p (inl e) = clash refl (sym e)
graph-wide width (y ∷ g) p (inr e) = rows-wide width (y ∷ g) (graph_count (y ∷ g)) (ids_stand width (y ∷ g) p e) (omega arith)

-- ---- of an accepted opening

pub universe-wide : (i : Input) → refusal i ≡ None → Wide (width_in i) (universe i)
unfolding universe store_parents
universe-wide i e =
    let a = accepted i e in
    wide_append (width_in i) (list_ids (width_in i) i.tips) _ (list-wide (width_in i) i.tips)
    (wide_append (width_in i) (list_ids (width_in i) i.hidden) (names i) (list-wide (width_in i) i.hidden)
    (wide_append (width_in i) (store_parents (width_in i) i.store) (row_ids (width_in i) i.graph (graph_count i.graph)) (up_to-wide (width_in i) i.store (entries i.store)) (graph-wide (width_in i) i.graph (omega (arith, width_least i.settings.kind)) a.graph-ok)))

-- every id that waits, is seen or is in the frontier after k calls
pub all-wide : (i : Input) (st : State) → open_walk i true ≡ opened st → (k : ℕ) (x : Id)
    → Mem x (ids (state_after i k).queue) ⊎ (((state_after i k).seen x ≡ true) ⊎ ((state_after i k).frontier x ≡ true)) → length x ≡ width_in i
all-wide i st e k x m =
    let n = all_named i st e k in
    universe-wide i (open_accepted i st e) x (⊎_elim (n.queue_in x) (⊎_elim (n.seen_in x) (n.front_in x)) m)
