-- The premises of the third demand are met by the histories of `Instances`. A list of ids that is closed under parents is tested id by id, and
-- the tests compute.
-- Assumes nothing.
use Rattle.std.specs.Prelude.{Some}
use mathlib.Core.Path.{◌≡◌, refl, sym, ◌∙◌, ap, subst}
use mathlib.Core.Logic.{⊎_elim}
use Prim.Native.Nat.{ℕ}
use mathlib.Core.Bool.{Bool, true, false, ◌&&◌}
use mathlib.Core.List.Memᴰ
use mathlib.Core.List.{List, [], ◌∷◌, map}
use native.Mathlib.Omega.{arith}
use lib.IntN.{ℤ}
use Rattle.hash.specs.Bytes.{Id, among, bytes_all}
use Rattle.idlist.specs.IdList.{id_list_all}
use Rattle.object.specs.Header.{header_all}
use Rattle.odb.specs.Store.{store_all}
use Rattle.commitgraph.specs.Graph.{graph_all}
use Rattle.hash.proofs.Tests.{clash, and_first, and_second}
use Rattle.walk.specs.Lookup.{World, Row, no_row, corrupt, row, Read, fail, good, from_store, Pair, lt_pair, world_of, store_seconds}
use Rattle.walk.specs.State.{Walk}
use Rattle.walk.specs.Opening.{Input, walk_of, list_ids}
use Rattle.walk.specs.Next.{Kind}
use Rattle.walk.specs.Calls.{walk_all}
use Rattle.walk.specs.Reach.{Mem, links, Reaches, itself, through}
use Rattle.walk.specs.Demand.{Readable, Agrees, Region, Premises, pair_at, row_generation, Third, Delivers}
use Rattle.walk.specs.Runs.{sample, all, first_only, kinds, sample_wide}
use Rattle.walk.specs.Slips.{ids_for, fork, listing, grown, earlier}
use Rattle.walk.specs.Instances.{Meets, hiding, first_hiding, all_listed, part_listed, Instances}
use Rattle.walk.proofs.Open.{among-mem}
use Rattle.walk.proofs.Rows.{find_nil}
use Rattle.walk.proofs.Whole.{third}

-- ---- a test of the premises

unfoldable pub every : (Id → Bool) → List Id → Bool
every f [] = true
every f (x ∷ xs) = f x && every f xs

every-at : (f : Id → Bool) (l : List Id) → every f l ≡ true → (x : Id) → Mem x l → f x ≡ true
unfolding every
every-at f [] e x m = absurd (Memᴰ.not-nil m)
every-at f (y ∷ ys) e x m =
    ⊎_elim
    (λ k. ap f k ∙ and_first (f y) (every f ys) e)
    (λ k. every-at f ys (and_second (f y) (every f ys) e) x k)
    (Memᴰ.cases_cons m)

unfoldable pub is_good : Read → Bool
is_good (fail n) = false
is_good (good ps p) = true

good_of : (r : Read) → is_good r ≡ true → (ps : List Id) × (p : Pair) × (r ≡ good ps p)
unfolding is_good
good_of (fail n) e = clash e refl
good_of (good ps p) e = (ps, p, refl)

-- what a row has to say of x
abbrev AgreesIn : World → Id → Row → Type 0
AgreesIn w x no_row = Unit {0}
AgreesIn w x corrupt = ⊥
AgreesIn w x (row ps l s) = (map (λ p. p.0) ps ≡ links w x) × (store_seconds w x ≡ Some s)

agrees_in_lem : (w : World) (x : Id) (r : Row) → w.graph x ≡ r → AgreesIn w x r → Agrees w x
agrees_in_lem w x no_row e a = record {
  whole = λ k. let z : ◌≡◌ {A = ℕ} 0 1 = cc in omega arith;
  same-parents = λ ps l s k. let z : ◌≡◌ {A = ℕ} 0 1 = cc in absurd (omega arith);
  same-seconds = λ ps l s k. let z : ◌≡◌ {A = ℕ} 0 1 = cc in absurd (omega arith);
}
agrees_in_lem w x corrupt e a = absurd a
agrees_in_lem w x (row qs m t) e a = record {
  whole = λ k. let z : ◌≡◌ {A = ℕ} 0 1 = cc in omega arith;
  same-parents = λ ps l s k. let j : qs ≡ ps = cc in ap (map (λ (p : Id × ℤ). p.0)) (sym j) ∙ a.0;
  same-seconds = λ ps l s k. let j : t ≡ s = cc in a.1 ∙ ap Some j;
}

-- of every id of a list
abbrev AllAgree : World → List Id → Type 0
AllAgree w [] = Unit {0}
AllAgree w (x ∷ xs) = AgreesIn w x (w.graph x) × AllAgree w xs

agree_at : (w : World) (l : List Id) → AllAgree w l → (x : Id) → Mem x l → Agrees w x
agree_at w [] a x m = absurd (Memᴰ.not-nil m)
agree_at w (y ∷ ys) a x m =
    ⊎_elim (λ k. subst (Agrees w) (sym k) (agrees_in_lem w y (w.graph y) refl a.0)) (λ k. agree_at w ys a.1 x k) (Memᴰ.cases_cons m)

all_unlisted : (w : World) → ((x : Id) → w.graph x ≡ no_row) → (l : List Id) → AllAgree w l
all_unlisted w n [] = tt
all_unlisted w n (x ∷ xs) = (subst (AgreesIn w x) (sym (n x)) tt, all_unlisted w n xs)

-- x is readable, and each of its parents is of the list and has a pair below its own
unfoldable pub fit : World → List Id → Id → Bool
fit w us x = is_good (from_store (w.store x)) && every (λ p. among p us && lt_pair (pair_at w p) (pair_at w x)) (links w x)

module _ (v : Walk) (tips us : List Id) (all-agree : AllAgree v.world us)
    (tips_in_lem : every (λ x. among x us) tips ≡ true) (hidden_in : every (λ x. among x us) v.hidden ≡ true) (all_fit : every (fit v.world us) us ≡ true) where
  fit_at : (x : Id) → Mem x us
      → (is_good (from_store (v.world.store x)) ≡ true) × (every (λ p. among p us && lt_pair (pair_at v.world p) (pair_at v.world x)) (links v.world x) ≡ true)
  unfolding fit
  fit_at x m = let e = every-at (fit v.world us) us all_fit x m in (and_first _ (every (λ p. among p us && lt_pair (pair_at v.world p) (pair_at v.world x)) (links v.world x)) e, and_second (is_good (from_store (v.world.store x))) _ e)

  parent-at : (x p : Id) → Mem x us → Mem p (links v.world x) → (among p us ≡ true) × (lt_pair (pair_at v.world p) (pair_at v.world x) ≡ true)
  parent-at x p m k =
      let e : (among p us && lt_pair (pair_at v.world p) (pair_at v.world x)) ≡ true = every-at (λ q. among q us && lt_pair (pair_at v.world q) (pair_at v.world x)) (links v.world x) (fit_at x m).1 p k in
      (and_first (among p us) (lt_pair (pair_at v.world p) (pair_at v.world x)) e, and_second (among p us) (lt_pair (pair_at v.world p) (pair_at v.world x)) e)

  reached : (y x : Id) → Mem x us → Reaches v.world y x → Mem y us
  reached y x m (itself e) = subst (λ (z : Id). Mem z us) e m
  reached y x m (through {p = p} k r) = reached y p (among-mem p us (parent-at x p m k).0) r

  region : (x : Id) → Region v tips x → Mem x us
  unfolding Region
  region x r =
      reached x r.0
      (⊎_elim (λ m. among-mem r.0 us (every-at (λ z. among z us) tips tips_in_lem r.0 m)) (λ m. among-mem r.0 us (every-at (λ z. among z us) v.hidden hidden_in r.0 m)) r.1)
      r.2

  pub premises : Premises v tips
  unfolding Readable
  premises = record {
    readable = λ x r. good_of (from_store (v.world.store x)) (fit_at x (region x r)).0;
    agrees = λ x r. agree_at v.world us all-agree x (region x r);
    falls = λ x p r m. (parent-at x p (region x r) m).1;
  }

-- ---- the histories

history : List Id
history = ids_for (1 ∷ 2 ∷ 3 ∷ 4 ∷ 5 ∷ 6 ∷ 7 ∷ 8 ∷ [])

sample-rows : (x : Id) → (world_of 20 sample []).graph x ≡ no_row
unfolding world_of
sample-rows x = rw (find_nil 20 x)

sample-fit : every (fit (world_of 20 sample []) history) history ≡ true
unfolding every fit is_good links pair_at row_generation history ids_for sample_wide bytes_all id_list_all header_all store_all graph_all walk_all
sample-fit = refl

hiding-tips : every (λ x. among x history) (list_ids 20 hiding.tips) ≡ true
unfolding every hiding all history ids_for bytes_all walk_all
hiding-tips = refl

hiding-hidden : every (λ x. among x history) (walk_of hiding).hidden ≡ true
unfolding every hiding all history ids_for bytes_all walk_all
hiding-hidden = refl

hiding-premises : Premises (walk_of hiding) (list_ids 20 hiding.tips)
unfolding hiding all walk_of
hiding-premises =
    premises (walk_of hiding) (list_ids 20 hiding.tips) history (all_unlisted (world_of 20 sample []) sample-rows history) hiding-tips hiding-hidden sample-fit

first-tips : every (λ x. among x history) (list_ids 20 first_hiding.tips) ≡ true
unfolding every first_hiding first_only history ids_for bytes_all walk_all
first-tips = refl

first-hidden : every (λ x. among x history) (walk_of first_hiding).hidden ≡ true
unfolding every first_hiding first_only history ids_for bytes_all walk_all
first-hidden = refl

first-premises : Premises (walk_of first_hiding) (list_ids 20 first_hiding.tips)
unfolding first_hiding first_only walk_of
first-premises =
    premises (walk_of first_hiding) (list_ids 20 first_hiding.tips) history (all_unlisted (world_of 20 sample []) sample-rows history) first-tips first-hidden sample-fit

forked : List Id
forked = ids_for (1 ∷ 2 ∷ 3 ∷ 4 ∷ [])

-- each of its commits has a row
forked_agree : AllAgree (walk_of all_listed).world forked
unfolding forked all_listed all ids_for fork listing links bytes_all id_list_all header_all store_all graph_all walk_all
forked_agree = ((refl, refl), ((refl, refl), ((refl, refl), ((refl, refl), tt))))

forked_tips : every (λ x. among x forked) (list_ids 20 all_listed.tips) ≡ true
unfolding every all_listed all forked ids_for bytes_all walk_all
forked_tips = refl

forked_hidden : every (λ x. among x forked) (walk_of all_listed).hidden ≡ true
unfolding every all_listed all forked ids_for bytes_all walk_all
forked_hidden = refl

forked_fit : every (fit (walk_of all_listed).world forked) forked ≡ true
unfolding every fit is_good links pair_at row_generation forked all_listed all ids_for fork listing bytes_all id_list_all header_all store_all graph_all walk_all
forked_fit = refl

grown_up : List Id
grown_up = ids_for (1 ∷ 2 ∷ 3 ∷ 4 ∷ 5 ∷ [])

-- 2 has none
grown_agree : AllAgree (walk_of part_listed).world grown_up
unfolding grown_up part_listed all ids_for grown earlier links bytes_all id_list_all header_all store_all graph_all walk_all
grown_agree = ((refl, refl), (tt, ((refl, refl), ((refl, refl), ((refl, refl), tt)))))

grown-tips : every (λ x. among x grown_up) (list_ids 20 part_listed.tips) ≡ true
unfolding every part_listed all grown_up ids_for bytes_all walk_all
grown-tips = refl

grown-hidden : every (λ x. among x grown_up) (walk_of part_listed).hidden ≡ true
unfolding every part_listed all grown_up ids_for bytes_all walk_all
grown-hidden = refl

grown-fit : every (fit (walk_of part_listed).world grown_up) grown_up ≡ true
unfolding every fit is_good links pair_at row_generation grown_up part_listed all ids_for grown earlier bytes_all id_list_all header_all store_all graph_all walk_all
grown-fit = refl

pub instances : Instances
unfolding kinds hiding first_hiding all_listed part_listed all first_only sample_wide fork listing grown earlier bytes_all id_list_all header_all store_all graph_all walk_all
instances = record {
  no-graph = record { accepted = refl; premises = hiding-premises; says = refl };
  by_first = record { accepted = refl; premises = first-premises; says = refl };
  with_graph = record {
    accepted = refl;
    premises = premises (walk_of all_listed) (list_ids 20 all_listed.tips) forked forked_agree forked_tips forked_hidden forked_fit;
    says = refl;
  };
  with_part = record {
    accepted = refl;
    premises = premises (walk_of part_listed) (list_ids 20 part_listed.tips) grown_up grown_agree grown-tips grown-hidden grown-fit;
    says = refl;
  };
}

-- so the demand speaks of each of them
pub meets_delivers : (i : Input) (ks : List Kind) → Meets i ks → Delivers i
unfolding Third
meets_delivers i ks m = third i m.accepted m.premises
