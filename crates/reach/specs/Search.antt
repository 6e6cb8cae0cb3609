-- The search (document 02, cards 1, 8, 11 and 12): what a list of ids reaches, "over all the book's parents", as one list without repeats, and
-- how such a list grows. In which order commits are met is not said. Assumes nothing.
use Rattle.std.specs.Prelude.{ℕ, zero, suc, ◌≤◌, ◌<◌, ◌≡◌, ◌⊎◌, cond, List, [], ◌∷◌, ◌++◌, length, get_or, ltb}
use Rattle.hash.specs.Bytes.{Id, among}
use Rattle.walk.specs.Lookup.{World, world_of}
use Rattle.walk.specs.Universe.{store_parents}
use Rattle.walk.specs.Reach.{Mem, NoDup, links, Reaches}
use Rattle.walk.specs.Demand.{Readable}

-- "everything reachable from all given tips": one of the roots, as lent, reaches x
pub record ReachedBy (w : World) (roots : List Id) (x : Id) : Type 0 where
  pub root : Id
  pub lent : Mem root roots
  pub reaches : Reaches w x root

-- l has what the roots reach, and nothing else, each once: the answer of a search
pub record Reached (w : World) (roots l : List Id) : Type 0 where
  pub once : NoDup l
  pub sound : (x : Id) → Mem x l → ReachedBy w roots x
  pub complete : (x : Id) → ReachedBy w roots x → Mem x l

-- l' is l with the ids xs noted: l stands at its front, and it has xs and nothing else more
pub record Grows (l xs l' : List Id) : Type 0 where
  pub in_it : (x : Id) → Mem x xs → Mem x l'
  pub cases : (x : Id) → Mem x l' → Mem x l ⊎ Mem x xs
  pub keeps : (x : Id) → Mem x l → Mem x l'
  pub place : (i : ℕ) → i < length l → get_or l' i [] ≡ get_or l i []
  pub long : length l ≤ length l'

-- ---- the list, computed

-- ids are noted one after another: one that is not in the list comes to its end
unfoldable pub noted : List Id → List Id → List Id
noted l [] = l
noted l (x ∷ xs) = noted (cond (among x l) l (l ++ (x ∷ []))) xs

-- the parents of the ids from place k of the list on are noted, of n ids at most
unfoldable pub reached_from : World → ℕ → ℕ → List Id → List Id
reached_from w zero k l = l
reached_from w (suc n) k l =
    let on : List Id = reached_from w n (suc k) (noted l (links w (get_or l k []))) in
    cond (ltb k (length l)) on l

-- all that can be met: the roots, and what the store names as a parent
abbrev pub reach_names : ℕ → List ℕ → List Id → List Id
reach_names width store roots = roots ++ store_parents width store

-- what the roots reach: no more ids can be met than these, so all are read
unfoldable pub reach_list : ℕ → List ℕ → List ℕ → List Id → List Id
reach_list width store graph roots = reached_from (world_of width store graph) (length (reach_names width store roots)) 0 (noted [] roots)

-- ---- the search

-- the search on its way: all of l is reached, and the parents of its first k, which have been read, are in l
pub record Growing (w : World) (roots l : List Id) (k : ℕ) : Type 0 where
  pub once : NoDup l
  pub sound : (x : Id) → Mem x l → ReachedBy w roots x
  pub read : k ≤ length l
  pub closed : (i : ℕ) → i < k → (p : Id) → Mem p (links w (get_or l i [])) → Mem p l

-- the first k of l are readable
pub record ReadableTo (w : World) (l : List Id) (k : ℕ) : Type 0 where
  pub each : (i : ℕ) → i < k → Readable w (get_or l i [])

-- "13 unreadable reach": a commit that is reached and not readable
pub record Stuck (w : World) (roots : List Id) : Type 0 where
  pub commit : Id
  pub reached : ReachedBy w roots commit
  pub unreadable : Readable w commit → ⊥

-- "every commit is readable in the book"
unfoldable pub AllReadable : World → List Id → Type 0
AllReadable w roots = (x : Id) → ReachedBy w roots x → Readable w x

-- how a search ends: it has the list, and all of it is readable; or it met a commit that is not
pub data Ends (w : World) (roots : List Id) : Type 0 where
  whole : (l : List Id) → Reached w roots l → AllReadable w roots → Ends w roots
  stuck : Stuck w roots → Ends w roots
