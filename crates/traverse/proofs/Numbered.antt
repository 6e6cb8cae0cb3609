-- The answer of number k in the walk's lists of answers: it is f k in the list f 0, f 1, …, so what a list of k + 1 answers has in order, the answer
-- of number k has by its number. Assumes nothing.
use Rattle.std.specs.Prelude.{Option}
use Prim.Native.Nat.{ℕ, zero, suc, ◌+◌, ◌≤◌, ◌<◌}
use mathlib.Core.Path.{◌≡◌, refl, ◌∙◌, ap}
use mathlib.Core.Logic.{◌⊎◌, inl, inr, ⊎_elim}
use mathlib.Core.Bool.{Bool, true, false}
use mathlib.Core.List.Memᴰ
use mathlib.Core.List.{List, [], ◌∷◌, ◌++◌, map}
use native.Mathlib.Omega.{arith}
use lib.ListN.{length, take, get_or}
use lib.Seq.{take-nil}
use lib.Dec.{ltb}
use lib.IntN.{ℤ}
use Rattle.hash.specs.Bytes.{Id}
use Rattle.object.specs.Ids.{id_room, id_in}
use Rattle.object.proofs.IdBytes.{id_in_lem}
use Rattle.walk.specs.Reach.{Mem}
use Rattle.walk.specs.Next.{Kind, end, refused, handed, Answer}
use Rattle.walk.specs.Calls.{up_to}
use Rattle.walk.specs.Demand.{Hands, hands, ends}
use Rattle.walk.specs.Sums.{uses_kind, uses, Sums, EndsBy}
use Rattle.walk.specs.AnyInput.{handed_by, handed_ids}
use Rattle.walk.specs.Given.{given, no_id, outcome_of, id_of_kind}
use Rattle.traverse.specs.Demand.{id_if, handed_out, refused_if, refused_commits}

-- ---- one list

pub length_up_to : (f : ℕ → Answer) (n : ℕ) → length (up_to f n) ≡ n
unfolding up_to
length_up_to f zero = refl
length_up_to f (suc n) = ap suc (length_up_to (λ m. f (suc m)) n)

-- ---- what is handed out

-- number k of the list is handed out, or the list is over and the answer says end
abbrev pub HandsAt : List Id → ℕ → Answer → Type 0
HandsAt l k a = ((k < length l) × (g : Option ℕ) × (t : Option ℤ) × (a.kind ≡ handed (get_or l k no_id) g t)) ⊎ ((length l ≤ k) × (a.kind ≡ end))

pub hands-at : (l : List Id) (f : ℕ → Answer) (k : ℕ) → Hands l (up_to f (suc k)) → HandsAt l k (f k)
unfolding up_to
hands-at (x ∷ l) f zero (hands g t e r) = inl (omega arith, g, t, e)
hands-at [] f zero (ends e r) = inr (omega arith, e)
hands-at (x ∷ l) f (suc k) (hands g t e r) =
    ⊎_elim (λ w. inl (omega (arith, w.0), w.1, w.2, w.3)) (λ w. inr (omega (arith, w.0), w.1)) (hands-at l (λ n. f (suc n)) k r)
hands-at [] f (suc k) (ends e r) = ⊎_elim (λ w. absurd (omega (arith, w.0))) (λ w. inr (omega arith, w.1)) (hands-at [] (λ n. f (suc n)) k r)

-- as many as there are answers
pub hands-ids : (l : List Id) (qs : List Answer) → Hands l qs → handed_ids qs ≡ take (length qs) l
unfolding handed_ids handed_by
hands-ids l [] h = refl
hands-ids (x ∷ l) (a ∷ qs) (hands g t e r) =
    ap (λ (k : Kind). handed_by k ++ handed_ids qs) e ∙ ap (λ (q : List Id). x ∷ q) (hands-ids l qs r)
hands-ids [] (a ∷ qs) (ends e r) = ap (λ (k : Kind). handed_by k ++ handed_ids qs) e ∙ hands-ids [] qs r ∙ take-nil (length qs)

-- the same read off what the calls give
kind-ids : (width : ℕ) → width ≤ id_room → (k : Kind) → ((x : Id) → Mem x (handed_by k) → length x ≡ width) → id_if (outcome_of k) (id_in width (id_of_kind k)) ≡ handed_by k
unfolding id_if handed_by
kind-ids width small end w = refl
kind-ids width small (refused r) w = refl
kind-ids width small (handed x g t) w = ap (λ (y : Id). y ∷ []) (id_in_lem width x (w x (Memᴰ.head refl)) small)

-- the ids that answers hand out are so wide
abbrev pub HandsWide : ℕ → List Answer → Type 0
HandsWide width qs = (a : Answer) → Mem a qs → (x : Id) → Mem x (handed_by a.kind) → length x ≡ width

pub given-ids : (width : ℕ) → width ≤ id_room → (qs : List Answer) → HandsWide width qs → handed_out width (map given qs) ≡ handed_ids qs
unfolding handed_out handed_ids given
given-ids width small [] w = refl
given-ids width small (a ∷ qs) w =
    ap (λ (q : List Id). q ++ handed_out width (map given qs)) (kind-ids width small a.kind (w a (Memᴰ.head refl)))
    ∙ ap (λ (q : List Id). handed_by a.kind ++ q) (given-ids width small qs (λ b m. w b (Memᴰ.tail m)))

-- ---- the sum

unfoldable used : List Answer → ℕ
used [] = 0
used (a ∷ qs) = uses a + used qs

sums_at : (f : ℕ → Answer) (k n : ℕ) → Sums n (up_to f (suc k)) → (f k).admitted ≡ n + used (up_to f (suc k)) + (f k).struck + (f k).waiting
unfolding up_to used
sums_at f zero n (Sums.call e s) = omega (arith, e)
sums_at f (suc k) n (Sums.call e s) = omega (arith, sums_at (λ m. f (suc m)) k (n + uses (f zero)) s)

-- a commit that is used up is handed out or refused
kind-uses : (k : Kind) (y : Id) (b : Bool) (l : List Id) (n : ℕ) → length (id_if (outcome_of k) y ++ l) + (refused_if (outcome_of k) b + n) ≡ uses_kind k b + (length l + n)
unfolding id_if refused_if uses_kind
kind-uses end y b l n = omega arith
kind-uses (refused r) y true l n = omega arith
kind-uses (refused r) y false l n = omega arith
kind-uses (handed x g t) y b l n = omega arith

given-uses : (width : ℕ) (qs : List Answer) → length (handed_out width (map given qs)) + refused_commits (map given qs) ≡ used qs
unfolding handed_out refused_commits given used uses
given-uses width [] = refl
given-uses width (a ∷ qs) =
    kind-uses a.kind (id_in width (id_of_kind a.kind)) (ltb a.struck a.admitted) (handed_out width (map given qs)) (refused_commits (map given qs)) ∙ ap (λ (n : ℕ). uses a + n) (given-uses width qs)

pub sum-at : (width : ℕ) (f : ℕ → Answer) (k : ℕ) → Sums 0 (up_to f (suc k))
    → (f k).admitted ≡ length (handed_out width (map given (up_to f (suc k)))) + refused_commits (map given (up_to f (suc k))) + (f k).struck + (f k).waiting
sum-at width f k s = omega (arith, sums_at f k 0 s, given-uses width (up_to f (suc k)))

-- ---- the end

pub ends_at : (f : ℕ → Answer) (k n : ℕ) → EndsBy n (up_to f (suc k)) → n ≤ k → (f k).kind ≡ end
unfolding up_to
ends_at f zero n (EndsBy.before s) l = absurd (omega arith)
ends_at f (suc k) (suc n) (EndsBy.before s) l = ends_at (λ m. f (suc m)) k n s (omega arith)
ends_at f zero n (EndsBy.over e s) l = e
ends_at f (suc k) n (EndsBy.over e s) l = ends_at (λ m. f (suc m)) k zero s (omega arith)
