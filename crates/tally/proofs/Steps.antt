-- What a lookup found is what the commit's readings are read from, where they are not withheld; and how many calls are left. Assumes nothing.
use Rattle.std.specs.Prelude.{Option, Result}
use Rattle.feed.specs.declared.Feed.{Feed}
use Rattle.walk.specs.declared.Refusal.{Refusal}
use mathlib.Core.Path.{◌≡◌, refl, sym, ap, subst}
use Prim.Native.Nat.{ℕ}
use mathlib.Core.Bool.{Bool, true, false, cond}
use mathlib.Core.List.{List, []}
use Rattle.hash.specs.Bytes.{Id, among, if_some}
use Rattle.odb.specs.Store.{store_is_ok, store_find}
use Rattle.odb.specs.Lookup.{option_of, TriesFind}
use Rattle.feed.specs.Feed.{feed_of}
use Rattle.walk.specs.declared.Outcome.{Outcome}
use Rattle.walk.specs.Given.{calls_after}
use Rattle.tally.specs.declared.Task.{Task}
use Rattle.tally.specs.declared.Tally.{Tally}
use Rattle.tally.specs.Feeds.{no_reading, feed_at, feed_for, SmallIn}
use Rattle.tally.specs.Tally.{read_in, halted, calls_left}
use Rattle.tally.proofs.Few.{in_small}

pub feed_found : {w : ℕ} {s : List ℕ} {x : Id} {f : Bool} {b : List ℕ} → TriesFind w s x f b → store_is_ok w s ≡ true → read_in f b ≡ feed_at w s x
unfolding feed_at
feed_found {w} {s} {x} {f} {b} l ok = go f (l.good ok)
  where
    go : (t : Bool) → option_of t b ≡ store_find w s x → read_in t b ≡ if_some (store_find w s x) no_reading (λ c. feed_of c)
    go true e = ap (λ (o : Option (List ℕ)). if_some o no_reading (λ c. feed_of c)) e
    go false e = ap (λ (o : Option (List ℕ)). if_some o no_reading (λ c. feed_of c)) e

-- and they are small, whatever the store is
pub small-found : {w : ℕ} {s : List ℕ} {x : Id} {f : Bool} {b : List ℕ} {q : Result Feed Refusal} → TriesFind w s x f b → q ≡ read_in f b → SmallIn q
small-found {f = f} {b = b} l e = subst SmallIn (sym e) (in_small f b)

-- ---- where some ids are withheld

pub held_back : (w : ℕ) (l : List Id) (s : List ℕ) (x : Id) → among x l ≡ true → no_reading ≡ feed_for w l s x
unfolding feed_for
held_back w l s x e = ap (λ (b : Bool). cond b no_reading (feed_at w s x)) (sym e)

pub not-held : (w : ℕ) (l : List Id) (s : List ℕ) (x : Id) → among x l ≡ false → feed_at w s x ≡ feed_for w l s x
unfolding feed_for
not-held w l s x e = ap (λ (b : Bool). cond b no_reading (feed_at w s x)) (sym e)

-- with no id withheld the readings are those of the store
pub none-held : (w : ℕ) (s : List ℕ) (x : Id) → feed_for w [] s x ≡ feed_at w s x
unfolding feed_for among
none-held w s x = refl

-- ---- the calls left

pub left-none : (task : Task) (t : Tally) (n : ℕ) (o : Outcome) → halted task t ≡ true → 0 ≡ calls_left task t n o
left-none task t n o e = ap (λ (b : Bool). cond b 0 (calls_after n o)) (sym e)

pub left-more : (task : Task) (t : Tally) (n : ℕ) (o : Outcome) → halted task t ≡ false → calls_after n o ≡ calls_left task t n o
left-more task t n o e = ap (λ (b : Bool). cond b 0 (calls_after n o)) (sym e)
