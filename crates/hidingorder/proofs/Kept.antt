-- Hiding keeps the order: the list with hidden tips is the list with none, less what is hidden; so the list with both hidden lists is that with the
-- first, less what the second hides, and what it does not hide is what the list with the second has. Assumes nothing.
use mathlib.Core.Path.{◌≡◌, refl, sym, ◌∙◌, ap, subst}
use mathlib.Core.Logic.{◌⊎◌, inl, inr, ⊎_elim, ◌↔◌}
use Prim.Native.Nat.{ℕ, ◌+◌, ◌*◌, ◌≤◌}
use mathlib.Core.Bool.{Bool, true, not, ◌&&◌}
use mathlib.Core.List.Memᴰ
use mathlib.Core.List.{List, [], ◌∷◌, ◌++◌}
use native.Mathlib.Omega.{arith}
use native.Mathlib.Nat.{mul-zero, zero-div}
use lib.ListN.{length, length-append}
use lib.Seq.{take_all}
use Rattle.hash.specs.Bytes.{Id, ids_of, among}
use Rattle.hash.proofs.Tests.{clash, not_yes, and_of, and_both}
use Rattle.walk.specs.Lookup.{World, world_of}
use Rattle.walk.specs.State.{State, is_empty, empty_state}
use Rattle.walk.specs.Opening.{Input, walk_of, list_ids, P, distinct, width_in}
use Rattle.walk.specs.Next.{Answer}
use Rattle.walk.specs.Calls.{answer_at_call, calls}
use Rattle.walk.specs.Universe.{store_parents}
use Rattle.walk.specs.Reach.{Mem}
use Rattle.walk.specs.Demand.{Hidden, Hands, Delivers, Third}
use Rattle.walk.proofs.Laws.{Coherent, not_yes_no, not_no_yes}
use Rattle.walk.proofs.Open.{among-mem, mem-among}
use Rattle.walk.proofs.Files.{store_parents_length}
use Rattle.walk.proofs.Rows.{coherent_world, no_rows}
use Rattle.walk.proofs.Tips.{open_tips_lem}
use Rattle.walk.proofs.Calls.{answers_at}
use Rattle.walk.proofs.Whole.{Accepted, accepted, length_list, answers-calls, third}
use Rattle.reach.specs.Search.{ReachedBy, reach_list}
use Rattle.reach.proofs.Closure.{links-named, list-reached}
use Rattle.traverse.proofs.Numbered.{length_up_to, hands-ids}
use Rattle.driver.specs.Walked.{all_answers, whole_list}
use Rattle.hiding.specs.Hiding.{hiding, Whole, Tested, PartsTested, SameTested}
use Rattle.hiding.proofs.Joined.{some_bytes, list-joined}
use Rattle.hiding.proofs.Adding.{parts-tested, same-tested}
use Rattle.hidingorder.specs.Order.{those, not_hidden, OrderKept}
use Rattle.hidingorder.proofs.Those.{same_test, those-same, those-twice, those-out, those_in}
use Rattle.hidingorder.proofs.Begun.{opened-same}
use Rattle.hidingorder.proofs.Lists.{tips-same, same_lists}

-- ---- the list of an opening

pub whole_is : (i : Input) (d : Delivers i) → whole_list i ≡ d.list
unfolding whole_list
whole_is i d =
    let n : length (all_answers i) ≡ P i + 2 = ap (λ (x : List Answer). length x) (answers_at i (P i + 2)) ∙ length_up_to (answer_at_call i) (P i + 2) in
    hands-ids d.list (all_answers i) (d.handed_out (P i + 2)) ∙ take_all (length (all_answers i)) d.list (omega (arith, n, d.within))

pub delivered : (i : Input) → Tested i → Delivers i
unfolding Third
delivered i t = third i t.fits t.premises

-- rows of an accepted graph file agree among themselves
empty-graph : (width : ℕ) (b g : List ℕ) → is_empty g ≡ true → Coherent (world_of width b g)
unfolding is_empty
empty-graph width b [] e = no_rows width b
empty-graph width b (x ∷ g) e = clash refl (sym e)

coherent : (i : Input) → Accepted i → Coherent (world_of (width_in i) i.store i.graph)
coherent i a = ⊎_elim (empty-graph (width_in i) i.store i.graph) (coherent_world (width_in i) i.store i.graph) a.graph-ok

-- ---- what is hidden

module _ (i : Input) where
  abbrev w : World
  w = world_of (width_in i) i.store i.graph

  abbrev hidBy : List ℕ → Id → Bool
  hidBy h x = among x (reach_list (width_in i) i.store i.graph (list_ids (width_in i) h))

  hid-reached : (h : List ℕ) (x : Id) → hidBy h x ≡ true → ReachedBy w (list_ids (width_in i) h) x
  hid-reached h x e = (list-reached (width_in i) i.store i.graph (list_ids (width_in i) h)).sound x (among-mem x (reach_list (width_in i) i.store i.graph (list_ids (width_in i) h)) e)

  reached-hid : (h : List ℕ) (x : Id) → ReachedBy w (list_ids (width_in i) h) x → hidBy h x ≡ true
  reached-hid h x r = mem-among x (reach_list (width_in i) i.store i.graph (list_ids (width_in i) h)) ((list-reached (width_in i) i.store i.graph (list_ids (width_in i) h)).complete x r)

  no-ids : (x : Id) → Mem x (list_ids (width_in i) []) → ⊥
  unfolding list_ids ids_of
  no-ids x m = Memᴰ.not-nil (subst (λ (n : ℕ). Mem x (ids_of (width_in i) n [])) (zero-div (width_in i)) m)

  -- ---- the list with hidden tips and the list with none

  enough : (h : List ℕ) → Accepted i → 3 * length (store_parents (width_in i) i.store) + length (list_ids (width_in i) i.tips) + length (list_ids (width_in i) h) ≤ 4 * P (hiding i h)
  unfolding P
  enough h a = omega (arith, store_parents_length (width_in i) i.store a.store_ok, length_list (width_in i) i.tips, length_list (width_in i) h)

  same-state : (h : List ℕ) (d : Delivers (hiding i h)) (f : Delivers (hiding i [])) → f.state ≡ d.state
  unfolding walk_of
  same-state h d f = opened-same (sym (open_tips_lem (hiding i []) f.state f.accepted)
      ∙ tips-same w i.settings (list_ids (width_in i) i.excluded) (list_ids (width_in i) []) (list_ids (width_in i) h) (4 * P (hiding i [])) (4 * P (hiding i h)) (distinct [] (list_ids (width_in i) i.excluded) (list_ids (width_in i) i.tips)) empty_state
      ∙ open_tips_lem (hiding i h) d.state d.accepted)

  less-hidden : (h : List ℕ) → Tested (hiding i h) → Tested (hiding i []) → (d : Delivers (hiding i h)) (f : Delivers (hiding i [])) → d.list ≡ those (not_hidden i h) f.list
  unfolding walk_of not_hidden Hidden
  less-hidden h t u d f =
      let a : Accepted (hiding i h) = accepted (hiding i h) t.fits in
      let b : Accepted i = record { store_ok = a.store_ok; graph-ok = a.graph-ok } in
      same_lists w i.settings (list_ids (width_in i) i.excluded) (list_ids (width_in i) h) (list_ids (width_in i) []) (4 * P (hiding i h)) (4 * P (hiding i [])) (list_ids (width_in i) i.tips)
      t.premises u.premises (coherent i b) (hidBy h)
      (λ x e. let r = hid-reached h x e in (r.root, r.lent, r.reaches))
      (λ x r. reached-hid h x (record { root = r.0; lent = r.1; reaches = r.2 }))
      (λ x r. no-ids r.0 r.1)
      d.state (store_parents (width_in i) i.store)
      (λ x p r m. links-named (width_in i) i.store i.graph x p m) (enough h b)
      (λ x p r m. links-named (width_in i) i.store i.graph x p m) (enough [] b)
      (open_tips_lem (hiding i h) d.state d.accepted)
      d.list f.list
      (λ n. subst (Hands d.list) (answers-calls (hiding i h) d.state d.accepted n) (d.handed_out n))
      (λ n. subst (λ (s : State). Hands f.list (calls (walk_of (hiding i [])) n s)) (same-state h d f)
      (subst (Hands f.list) (answers-calls (hiding i []) f.state f.accepted n) (f.handed_out n)))

  no_bytes : Whole (width_in i) []
  no_bytes = record { count = 0; is = sym (mul-zero (width_in i)) }

  none-tested : (h : List ℕ) → Whole (width_in i) h → Tested (hiding i h) → Tested (hiding i [])
  unfolding PartsTested
  none-tested h a t = (parts-tested i [] h no_bytes a t).0

  -- the lists with nothing hidden and with h hidden
  abbrev L : List ℕ → List Id
  L h = whole_list (hiding i h)

  pub whole-less : (h : List ℕ) → Whole (width_in i) h → Tested (hiding i h) → L h ≡ those (not_hidden i h) (L [])
  whole-less h a t =
      let u = none-tested h a t in
      let d = delivered (hiding i h) t in
      let f = delivered (hiding i []) u in
      whole_is (hiding i h) d ∙ less-hidden h t u d f ∙ ap (those (not_hidden i h)) (sym (whole_is (hiding i []) f))

  -- ---- two lists

  module _ (h k : List ℕ) (a : Whole (width_in i) h) (b : Whole (width_in i) k) where
    joined-ids : (x : Id) → Mem x (list_ids (width_in i) (h ++ k)) ↔ (Mem x (list_ids (width_in i) h) ⊎ Mem x (list_ids (width_in i) k))
    joined-ids x = (
      (λ m. Memᴰ.append_cases (list_ids (width_in i) h) (subst (λ (l : List Id). Mem x l) (list-joined (width_in i) (some_bytes i) h k a b) m)),
      (λ m. subst (λ (l : List Id). Mem x l) (sym (list-joined (width_in i) (some_bytes i) h k a b)) (⊎_elim (Memᴰ.append_left (list_ids (width_in i) k)) (Memᴰ.append_right (list_ids (width_in i) h)) m)),
    )

    hid-either : (x : Id) → hidBy (h ++ k) x ≡ true → (hidBy h x ≡ true) ⊎ (hidBy k x ≡ true)
    hid-either x e =
        let r = hid-reached (h ++ k) x e in
        ⊎_elim
        (λ m. inl (reached-hid h x (record { root = r.root; lent = m; reaches = r.reaches })))
        (λ m. inr (reached-hid k x (record { root = r.root; lent = m; reaches = r.reaches })))
        ((joined-ids r.root).0 r.lent)

    hid-first : (x : Id) → hidBy h x ≡ true → hidBy (h ++ k) x ≡ true
    hid-first x e = let r = hid-reached h x e in reached-hid (h ++ k) x (record { root = r.root; lent = (joined-ids r.root).1 (inl r.lent); reaches = r.reaches })

    hid-second : (x : Id) → hidBy k x ≡ true → hidBy (h ++ k) x ≡ true
    hid-second x e = let r = hid-reached k x e in reached-hid (h ++ k) x (record { root = r.root; lent = (joined-ids r.root).1 (inr r.lent); reaches = r.reaches })

    not-both : (x : Id) → (not_hidden i h x && not_hidden i k x) ≡ not_hidden i (h ++ k) x
    unfolding not_hidden
    not-both x = same_test (not (hidBy h x) && not (hidBy k x)) (not (hidBy (h ++ k) x))
        (λ e. let n = and_both {a = not (hidBy h x)} {b = not (hidBy k x)} e in
        not_no_yes (hidBy (h ++ k) x) (not_yes (λ u. ⊎_elim (λ y. clash y (not_yes_no (hidBy h x) n.0)) (λ y. clash y (not_yes_no (hidBy k x) n.1)) (hid-either x u))))
        (λ e. let n = not_yes_no (hidBy (h ++ k) x) e in
        and_of (not_no_yes (hidBy h x) (not_yes (λ y. clash (hid-first x y) n))) (not_no_yes (hidBy k x) (not_yes (λ y. clash (hid-second x y) n))))

    pub whole-further : Tested (hiding i (h ++ k)) → Tested (hiding i h) → L (h ++ k) ≡ those (not_hidden i k) (L h)
    whole-further t u =
        whole-less (h ++ k) (record { count = a.count + b.count; is = omega (arith, length-append h k, a.is, b.is) }) t ∙ sym (those-same (λ x. not_hidden i h x && not_hidden i k x) (not_hidden i (h ++ k)) (L []) (λ x m. not-both x))
        ∙ sym (those-twice (not_hidden i h) (not_hidden i k) (L [])) ∙ ap (those (not_hidden i k)) (sym (whole-less h a u))

    pub whole-both : Tested (hiding i (h ++ k)) → L (h ++ k) ≡ those (λ x. among x (L k)) (L h)
    unfolding PartsTested
    whole-both t =
        let u = parts-tested i h k a b t in
        whole-further t u.0 ∙ those-same (not_hidden i k) (λ x. among x (L k)) (L h) (λ x m. same_test (not_hidden i k x) (among x (L k))
        (λ e. mem-among x (L k) (subst (λ (l : List Id). Mem x l) (sym (whole-less k b u.1))
        (those_in (not_hidden i k) (L []) x (those-out (not_hidden i h) (L []) x (subst (λ (l : List Id). Mem x l) (whole-less h a u.0) m)).0 e)))
        (λ e. (those-out (not_hidden i k) (L []) x (subst (λ (l : List Id). Mem x l) (whole-less k b u.1) (among-mem x (L k) e))).1))

  -- ---- the same ids

  hid-same : (h k : List ℕ) → ((x : Id) → Mem x (list_ids (width_in i) h) → Mem x (list_ids (width_in i) k)) → (x : Id) → hidBy h x ≡ true → hidBy k x ≡ true
  hid-same h k s x e = let r = hid-reached h x e in reached-hid k x (record { root = r.root; lent = s r.root r.lent; reaches = r.reaches })

  pub whole_same : (h k : List ℕ) → Whole (width_in i) h → Whole (width_in i) k → ((x : Id) → Mem x (list_ids (width_in i) h) ↔ Mem x (list_ids (width_in i) k)) → Tested (hiding i h) → Tested (hiding i k) → L h ≡ L k
  unfolding not_hidden
  whole_same h k a b s t u =
      whole-less h a t
      ∙ those-same (not_hidden i h) (not_hidden i k) (L [])
      (λ x m. ap not (same_test (hidBy h x) (hidBy k x) (hid-same h k (λ y n. (s y).0 n) x) (hid-same k h (λ y n. (s y).1 n) x)))
      ∙ sym (whole-less k b u)

-- ---- of any way to run an opening that gives this list

pub order-kept : (W : Input → Type 0) (runs : (i : Input) → W i → List Id) → ((i : Input) → Tested i → (d : W i) → runs i d ≡ whole_list i) → (i : Input) → OrderKept W runs i
unfolding PartsTested SameTested
order-kept W runs g i = record {
  taken_out = λ h a t d e. g (hiding i h) t d ∙ whole-less i h a t ∙ ap (those (not_hidden i h)) (sym (g (hiding i []) (none-tested i h a t) e));
  both = λ h k a b t d e f.
      let u = parts-tested i h k a b t in
      g (hiding i (h ++ k)) t d ∙ whole-both i h k a b t
      ∙ ap (λ (l : List Id). those (λ x. among x l) (whole_list (hiding i h))) (sym (g (hiding i k) u.1 f))
      ∙ ap (those (λ x. among x (runs (hiding i k) f))) (sym (g (hiding i h) u.0 e));
  further = λ h k a b t d e.
      let u = parts-tested i h k a b t in
      g (hiding i (h ++ k)) t d ∙ whole-further i h k a b t u.0 ∙ ap (those (not_hidden i k)) (sym (g (hiding i h) u.0 e));
  none_moved = λ h k a b l s t d e.
      let u = same-tested i h k b l s t in
      g (hiding i h) t d ∙ whole_same i h k a b s t u ∙ sym (g (hiding i k) u e);
}
