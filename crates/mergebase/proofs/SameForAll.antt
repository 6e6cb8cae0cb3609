-- Card 11: what is said is one, and the same when the tips are exchanged; what card 8 says of it stands: when none is said and when it is refused
-- remain as they were. Assumes nothing.
use Rattle.std.specs.Prelude.{None}
use mathlib.Core.Path.{◌≡◌, refl, ap}
use mathlib.Core.List.Memᴰ
use mathlib.Core.List.{List, [], ◌∷◌}
use mathlib.Core.Logic.{⊎_elim}
use Prim.Native.Nat.{ℕ}
use Rattle.hash.specs.Bytes.{Id}
use Rattle.hash.specs.declared.Kind.{Kind}
use Rattle.walk.specs.Lookup.{World}
use Rattle.walk.specs.Opening.{Lengths}
use Rattle.walk.specs.Reach.{Mem}
use Rattle.reach.specs.Search.{ReachedBy, Stuck, AllReadable}
use Rattle.reach.specs.Memory.{Lent}
use Rattle.parting.specs.Best.{Common, Best}
use Rattle.parting.specs.First.{First}
use Rattle.parting.proofs.Firsts.{first-once}
use Rattle.mergebase.specs.Parting.{MergeBase, early_refusal, base_at, Parts}
use Rattle.mergebase.specs.Exactly.{Exactly}
use Rattle.mergebase.specs.Call.{FirstParts, unreadable, nothing, first, tangled, MergeBaseSays}
use Rattle.mergebase.proofs.OneAnswer.{not_stuck, exactly}

-- the first is a best one: card 8's claim stands, and with it when each answer comes
pub first-parts : {w : World} {a b : Id} {r : MergeBase} → FirstParts w a b r → Parts w a b r
first-parts (unreadable s) = Parts.unreadable s
first-parts (nothing r n) = Parts.nothing r n
first-parts (first r x h) = Parts.best r x h.best
first-parts (tangled r x c n) = Parts.tangled r x c n

pub first-exactly : {w : World} {a b : Id} {r : MergeBase} → FirstParts w a b r → Exactly w a b r
first-exactly p = exactly (first-parts p)

-- one thing is said
pub said_once : {w : World} {a b : Id} {r r' : MergeBase} → FirstParts w a b r → FirstParts w a b r' → r ≡ r'
said_once {w} {a} {b} (unreadable s) (unreadable t) = refl
said_once {w} {a} {b} (unreadable s) (nothing r n) = not_stuck w (a ∷ b ∷ []) s r
said_once {w} {a} {b} (unreadable s) (first r x h) = not_stuck w (a ∷ b ∷ []) s r
said_once {w} {a} {b} (unreadable s) (tangled r x c n) = not_stuck w (a ∷ b ∷ []) s r
said_once {w} {a} {b} (nothing r n) (unreadable s) = not_stuck w (a ∷ b ∷ []) s r
said_once {w} {a} {b} (nothing r n) (nothing t o) = refl
said_once {w} {a} {b} (nothing r n) (first t x h) = absurd (n x h.best.common)
said_once {w} {a} {b} (nothing r n) (tangled t x c o) = absurd (n x c)
said_once {w} {a} {b} (first r x h) (unreadable s) = not_stuck w (a ∷ b ∷ []) s r
said_once {w} {a} {b} (first r x h) (nothing t n) = absurd (n x h.best.common)
said_once {w} {a} {b} (first r x h) (first t y k) = ap base_at (first-once h k)
said_once {w} {a} {b} (first r x h) (tangled t y c n) = absurd (n x h.best)
said_once {w} {a} {b} (tangled r x c n) (unreadable s) = not_stuck w (a ∷ b ∷ []) s r
said_once {w} {a} {b} (tangled r x c n) (nothing t o) = absurd (o x c)
said_once {w} {a} {b} (tangled r x c n) (first t y h) = absurd (n y h.best)
said_once {w} {a} {b} (tangled r x c n) (tangled t y d o) = refl

-- ---- the tips exchanged

mem_swap : {a b : Id} (x : Id) → Mem x (a ∷ b ∷ []) → Mem x (b ∷ a ∷ [])
mem_swap x m = ⊎_elim (λ e. Memᴰ.tail (Memᴰ.head e)) (λ k. Memᴰ.head (Memᴰ.eq_of_singleton k)) (Memᴰ.cases_cons m)

by_swap : {w : World} {a b : Id} {x : Id} → ReachedBy w (a ∷ b ∷ []) x → ReachedBy w (b ∷ a ∷ []) x
by_swap r = record { root = r.root; lent = mem_swap r.root r.lent; reaches = r.reaches }

all_swap : (w : World) (a b : Id) → AllReadable w (a ∷ b ∷ []) → AllReadable w (b ∷ a ∷ [])
unfolding AllReadable
all_swap w a b r x k = r x (by_swap k)

module _ {w : World} {a b : Id} where
  stuck-swap : Stuck w (a ∷ b ∷ []) → Stuck w (b ∷ a ∷ [])
  stuck-swap s = record { commit = s.commit; reached = by_swap s.reached; unreadable = s.unreadable }

  common-swap : {x : Id} → Common w a b x → Common w b a x
  common-swap c = record { from_one = c.from-other; from-other = c.from_one }

best_swap : {w : World} {a b x : Id} → Best w a b x → Best w b a x
best_swap h = record { common = common-swap h.common; not-reached = λ y c n. h.not-reached y (common-swap c) n }

first_swap : {w : World} {a b x : Id} → First w a b x → First w b a x
first_swap h = record { best = best_swap h.best; first = λ y g n. h.first y (best_swap g) n }

pub said_swap : {w : World} {a b : Id} {r : MergeBase} → FirstParts w a b r → FirstParts w b a r
said_swap (unreadable s) = unreadable (stuck-swap s)
said_swap {w} {a} {b} (nothing r n) = nothing (all_swap w a b r) (λ x c. n x (common-swap c))
said_swap {w} {a} {b} (first r x h) = first (all_swap w a b r) x (first_swap h)
said_swap {w} {a} {b} (tangled r x c n) = tangled (all_swap w a b r) x (common-swap c) (λ y g. n y (best_swap g))

-- two calls over one store, with the tips in either order and in any memory that is enough, say the same
pub same_for_all : {kind : Kind} {store : List ℕ} {a b : Id} {l k : Lengths} {m m' n n' : Lent} {v v' u u' : List ℕ} {r q : MergeBase} → MergeBaseSays kind store a b l m m' v v' r → MergeBaseSays kind store b a k n n' u u' q
    → early_refusal kind store a b l ≡ None → early_refusal kind store b a k ≡ None → r ≡ q
same_for_all one other e f = said_once (one.parts e []) (said_swap (other.parts f []))
