-- The numbers of n calls stay small: each call adds one to a count and a reading, of at most 1,000,000,000, to a sum. Assumes nothing.
use Rattle.std.specs.Prelude.{Err, None, Ok, Option, Result, Some}
use Rattle.walk.specs.declared.Refusal.{Refusal}
use mathlib.Core.Path.{◌≡◌, refl, ◌∙◌}
use Prim.Native.Nat.{ℕ, suc, ◌+◌, ◌*◌, ◌≤◌}
use mathlib.Core.Bool.{Bool, true, false, cond}
use mathlib.Core.List.{List, []}
use native.Mathlib.Omega.{arith}
use Rattle.hash.specs.Bytes.{Id, among, if_some}
use Rattle.object.specs.Ids.{id_in}
use Rattle.odb.specs.Store.{store_find}
use Rattle.feed.specs.declared.Feed.{Feed}
use Rattle.feed.specs.Feed.{feed_of, most_millimetres}
use Rattle.feed.proofs.Small.{cone-small, bed-small}
use Rattle.walk.specs.Opening.{list_ids}
use Rattle.walk.specs.declared.Outcome.{Outcome}
use Rattle.walk.specs.declared.Outcome.TheVariants.{Commit, End, Refused}
use Rattle.tally.specs.declared.feeds.Feeds.{Feeds}
use Rattle.tally.specs.declared.Task.{Task}
use Rattle.tally.specs.declared.Task.TheVariants as tasks
use Rattle.tally.specs.declared.Tally.{Tally}
use Rattle.tally.specs.Feeds.{no_reading, feed_at, feed_for, feeds_of, plus, FewFeeds, LowFeeds, Small, SmallIn}
use Rattle.tally.specs.Terms.{term_of}
use Rattle.tally.specs.Tally.{read_in, counted, fed_by, placed, placed_by, step_of, Few}

-- ---- readings

absent-small : Small None
absent-small n e = let z : ◌≡◌ {A = ℕ} 0 1 = cc in absurd (omega arith)

few-read : (c b : Option ℕ) → Small c → Small b → FewFeeds 1 (feeds_of c b)
few-read (Some c) (Some b) h g = let x = h c refl in let y = g b refl in record {
  both = omega arith;
  cone = omega arith;
  bed = omega arith;
  neither = omega arith;
  cone-sum = omega (arith, x);
  bed-sum = omega (arith, y);
  paired-cone = omega (arith, x);
  paired-bed = omega (arith, y);
}
few-read (Some c) None h g = let x = h c refl in record {
  both = omega arith;
  cone = omega arith;
  bed = omega arith;
  neither = omega arith;
  cone-sum = omega (arith, x);
  bed-sum = omega arith;
  paired-cone = omega arith;
  paired-bed = omega arith;
}
few-read None (Some b) h g = let y = g b refl in record {
  both = omega arith;
  cone = omega arith;
  bed = omega arith;
  neither = omega arith;
  cone-sum = omega arith;
  bed-sum = omega (arith, y);
  paired-cone = omega arith;
  paired-bed = omega arith;
}
few-read None None h g = record {
  both = omega arith;
  cone = omega arith;
  bed = omega arith;
  neither = omega arith;
  cone-sum = omega arith;
  bed-sum = omega arith;
  paired-cone = omega arith;
  paired-bed = omega arith;
}

-- of a body's
pub in_small : (t : Bool) (b : List ℕ) → SmallIn (read_in t b)
in_small true b f e = (λ n z. cone-small b f n e z, λ n z. bed-small b f n e z)
in_small false b f e =
    let c : None ≡ f.cone = cc in
    let d : None ≡ f.bed = cc in
    (λ n z. absent-small n (c ∙ z), λ n z. absent-small n (d ∙ z))

-- of a commit's
pub at_small : (w : ℕ) (s : List ℕ) (x : Id) → SmallIn (feed_at w s x)
unfolding feed_at
at_small w s x = go (store_find w s x)
  where
    go : (o : Option (List ℕ)) → SmallIn (if_some o no_reading (λ b. feed_of b))
    go None f e = in_small false [] f e
    go (Some b) f e = in_small true b f e

-- and of one that may be withheld
for_small : (w : ℕ) (l : List Id) (s : List ℕ) (x : Id) → SmallIn (feed_for w l s x)
unfolding feed_for
for_small w l s x = go (among x l)
  where
    go : (b : Bool) → SmallIn (cond b no_reading (feed_at w s x))
    go true f e = in_small false [] f e
    go false f e = at_small w s x f e

-- ---- of one call more

few-plus : (n : ℕ) (a b : Feeds) → FewFeeds n a → FewFeeds 1 b → FewFeeds (suc n) (plus a b)
few-plus n a b h g = record {
  both = omega (arith, h.both, g.both);
  cone = omega (arith, h.cone, g.cone);
  bed = omega (arith, h.bed, g.bed);
  neither = omega (arith, h.neither, g.neither);
  cone-sum = omega (arith, h.cone-sum, g.cone-sum);
  bed-sum = omega (arith, h.bed-sum, g.bed-sum);
  paired-cone = omega (arith, h.paired-cone, g.paired-cone);
  paired-bed = omega (arith, h.paired-bed, g.paired-bed);
}

few-feeds : (n k : ℕ) (f : Feeds) → n ≤ k → FewFeeds n f → FewFeeds k f
few-feeds n k f l h = record {
  both = omega (arith, l, h.both);
  cone = omega (arith, l, h.cone);
  bed = omega (arith, l, h.bed);
  neither = omega (arith, l, h.neither);
  cone-sum = omega (arith, l, h.cone-sum);
  bed-sum = omega (arith, l, h.bed-sum);
  paired-cone = omega (arith, l, h.paired-cone);
  paired-bed = omega (arith, l, h.paired-bed);
}

pub few_up : (n k : ℕ) (t : Tally) → n ≤ k → Few n t → Few k t
few_up n k t l h = record {
  commits = omega (arith, l, h.commits);
  refused = omega (arith, l, h.refused);
  feeds = few-feeds n k t.feeds l h.feeds;
  outside = omega (arith, l, h.outside);
}

-- the readings of one commit
pub low_read : (f : Feed) (q : Result Feed Refusal) → SmallIn q → q ≡ Ok f → LowFeeds (feeds_of f.cone f.bed)
low_read f q s e = few-feeds 1 4294967296 (feeds_of f.cone f.bed) (omega arith) (few-read f.cone f.bed (s f e).0 (s f e).1)

few-count : (n : ℕ) (t : Tally) (o : Outcome) (f : Feeds) → Few n t → FewFeeds (suc n) f → Few (suc n) (counted t o f)
few-count n t Commit f h g = record { commits = omega (arith, h.commits); refused = omega (arith, h.refused); feeds = g; outside = omega (arith, h.outside) }
few-count n t End f h g = record { commits = omega (arith, h.commits); refused = omega (arith, h.refused); feeds = g; outside = omega (arith, h.outside) }
few-count n t (Refused r) f h g = record { commits = omega (arith, h.commits); refused = omega (arith, h.refused); feeds = g; outside = omega (arith, h.outside) }

few-same : (n : ℕ) (t : Tally) (o : Outcome) → Few n t → Few (suc n) (counted t o t.feeds)
few-same n t o h = few-count n t o t.feeds h (few-feeds n (suc n) t.feeds (omega arith) h.feeds)

few-fed : (n : ℕ) (t : Tally) (o : Outcome) (q : Result Feed Refusal) → SmallIn q → Few n t → Few (suc n) (fed_by t o q)
few-fed n t Commit (Ok f) s h =
    let k = s f refl in
    few-count n t Commit (plus t.feeds (feeds_of f.cone f.bed)) h (few-plus n t.feeds (feeds_of f.cone f.bed) h.feeds (few-read f.cone f.bed k.0 k.1))
few-fed n t Commit (Err r) s h = few-same n t (Refused r) h
few-fed n t End q s h = few_up n (suc n) t (omega arith) h
few-fed n t (Refused r) q s h = few-same n t (Refused r) h

few-placed : (n : ℕ) (t : Tally) (p : Option ℕ) → Few n t → Few (suc n) (placed t p)
few-placed n t (Some k) h = record {
  commits = omega (arith, h.commits);
  refused = omega (arith, h.refused);
  feeds = few-feeds n (suc n) t.feeds (omega arith) h.feeds;
  outside = omega (arith, h.outside);
}
few-placed n t None h = record {
  commits = omega (arith, h.commits);
  refused = omega (arith, h.refused);
  feeds = few-feeds n (suc n) t.feeds (omega arith) h.feeds;
  outside = omega (arith, h.outside);
}

few-by : (n : ℕ) (t : Tally) (o : Outcome) (p : Option ℕ) → Few n t → Few (suc n) (placed_by t o p)
few-by n t Commit p h = few-placed n t p h
few-by n t End p h = few_up n (suc n) t (omega arith) h
few-by n t (Refused r) p h = few-same n t (Refused r) h

pub few-step : (w : ℕ) (task : Task) (embargoed terms s : List ℕ) (n : ℕ) (t : Tally) (o : Outcome) (x : Id) → Few n t → Few (suc n) (step_of w task embargoed terms s t o x)
few-step w tasks.Ids embargoed terms s n t o x h = few-same n t o h
few-step w tasks.Feed embargoed terms s n t o x h = few-fed n t o (feed_for w (list_ids w embargoed) s (id_in w x)) (for_small w (list_ids w embargoed) s (id_in w x)) h
few-step w tasks.Terms embargoed terms s n t o x h = few-by n t o (term_of w terms s (id_in w x)) h
