-- One answer more: each count goes on by that answer alone. Assumes nothing.
use mathlib.Core.Path.{◌≡◌, refl, sym, ◌∙◌, ap}
use Prim.Native.Nat.{ℕ, suc, ◌+◌, ◌*◌, ◌≤◌}
use mathlib.Core.List.Memᴰ
use mathlib.Core.List.{List, [], ◌∷◌, ◌++◌, append-nil}
use native.Mathlib.Omega.{arith}
use lib.ListN.{length, length-append}
use Rattle.hash.specs.Bytes.{Id, set_down}
use Rattle.object.specs.Ids.{id_room}
use Rattle.object.proofs.IdBytes.{id_in_lem}
use Rattle.walk.specs.Reach.{Mem}
use Rattle.walk.specs.declared.Refusal.{Refusal}
use Rattle.walk.specs.declared.Outcome.{Outcome}
use Rattle.walk.specs.declared.Outcome.TheVariants.{Commit, End, Refused}
use Rattle.walk.specs.Next.{Kind, end, refused, handed, Answer}
use Rattle.walk.specs.AnyInput.{handed_by}
use Rattle.walk.specs.Given.{outcome_of, id_of_kind}
use Rattle.tally.specs.Tally.{commits_after, refused_after, reason_after, ids_after}
use Rattle.lister.specs.Walked.{refused_by, refusals, refusal_or, first_refusal, put_down}

-- ---- what a list of answers comes to

pub refusals-more : (l : List Answer) (a : Answer) → refusals (l ++ (a ∷ [])) ≡ refusals l + refused_by a.kind
unfolding refusals
refusals-more [] a = omega arith
refusals-more (b ∷ l) a = omega (arith, refusals-more l a)

stays-first : (r : Refusal) (o : Outcome) → Refused r ≡ reason_after (Refused r) o
stays-first r Commit = refl
stays-first r End = refl
stays-first r (Refused n) = refl

first-only : (k : Kind) → refusal_or k End ≡ reason_after End (outcome_of k)
first-only end = refl
first-only (refused r) = refl
first-only (handed x g t) = refl

first_later : (k : Kind) (o first now : Outcome) → now ≡ reason_after first o → refusal_or k now ≡ reason_after (refusal_or k first) o
first_later end o first now e = e
first_later (refused r) o first now e = stays-first r o
first_later (handed x g t) o first now e = e

pub first_more : (l : List Answer) (a : Answer) → first_refusal (l ++ (a ∷ [])) ≡ reason_after (first_refusal l) (outcome_of a.kind)
unfolding first_refusal
first_more [] a = first-only a.kind
first_more (b ∷ l) a = first_later b.kind (outcome_of a.kind) (first_refusal l) (first_refusal (l ++ (a ∷ []))) (first_more l a)

put-more : (width : ℕ) (b : List ℕ) (n : ℕ) (l : List Id) (x : Id) → put_down width b n (l ++ (x ∷ [])) ≡ set_down (put_down width b n l) (width * (n + length l)) x
unfolding put_down
put-more width b n [] x = let e : n ≡ n + 0 = omega arith in ap (λ (k : ℕ). set_down b (width * k) x) e
put-more width b n (y ∷ l) x =
    let e : suc n + length l ≡ n + suc (length l) = omega arith in
    put-more width (set_down b (width * n) y) (suc n) l x ∙ ap (λ (k : ℕ). set_down (put_down width (set_down b (width * n) y) (suc n) l) (width * k) x) e

-- ---- what one answer adds

pub commits-on : (l : List Id) (k : Kind) → commits_after (length l) (outcome_of k) ≡ length (l ++ handed_by k)
unfolding handed_by
commits-on l end = sym (ap length (append-nil l))
commits-on l (refused r) = sym (ap length (append-nil l))
commits-on l (handed x g t) = sym (length-append l (x ∷ []))

pub refused-on : (n : ℕ) (k : Kind) → refused_after n (outcome_of k) ≡ n + refused_by k
refused-on n end = omega arith
refused-on n (refused r) = omega arith
refused-on n (handed x g t) = omega arith

pub ids-on : (width : ℕ) → width ≤ id_room → (b : List ℕ) (l : List Id) (k : Kind) → ((x : Id) → Mem x (handed_by k) → length x ≡ width)
    → ids_after width (put_down width b 0 l) (length l) (outcome_of k) (id_of_kind k) ≡ put_down width b 0 (l ++ handed_by k)
unfolding handed_by
ids-on width small b l end h = sym (ap (put_down width b 0) (append-nil l))
ids-on width small b l (refused r) h = sym (ap (put_down width b 0) (append-nil l))
ids-on width small b l (handed x g t) h =
    let e : length l ≡ 0 + length l = omega arith in
    ap (λ (y : Id). set_down (put_down width b 0 l) (width * length l) y) (id_in_lem width x (h x (Memᴰ.head refl)) small)
    ∙ ap (λ (n : ℕ). set_down (put_down width b 0 l) (width * n) x) e
    ∙ sym (put-more width b 0 l x)
