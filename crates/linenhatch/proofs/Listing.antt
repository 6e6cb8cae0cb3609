-- The third demand for callers of the library: it holds of the walk's calls behind theirs, and what they read in their buffers is what
-- those calls answered. Assumes nothing.
use Rattle.std.specs.Prelude.{Err, None, Ok, Result}
use mathlib.Core.Path.{◌≡◌, refl, sym, ◌∙◌, ap, subst}
use Prim.Native.Nat.{ℕ, zero, suc, ◌+◌, ◌≤◌, ◌<◌}
use mathlib.Core.Bool.{true}
use mathlib.Core.List.Memᴰ
use mathlib.Core.List.{List, [], ◌∷◌}
use mathlib.Core.Logic.{⊎_elim}
use native.Mathlib.Omega.{arith}
use lib.ListN.{length, get_or}
use lib.Seq.{length-take-le, take_all}
use Rattle.hash.specs.Bytes.{Id, width_of}
use Rattle.hash.proofs.Widths.{width-most}
use Rattle.object.specs.Ids.{id_room, id_in}
use Rattle.object.proofs.IdBytes.{id_in_lem}
use Rattle.hash.proofs.Tests.{by_cases}
use Rattle.walk.specs.declared.Refusal.{Refusal}
use Rattle.walk.specs.declared.Outcome.{Outcome}
use Rattle.walk.specs.declared.Outcome.TheVariants.{Commit, End, Refused}
use Rattle.walk.specs.declared.OpenAnswer.{OpenAnswer}
use Rattle.walk.specs.Refusals.{number_of}
use Rattle.walk.specs.Opening.{Input, width_in, walk_of, list_ids, refusal, room_for, P}
use Rattle.walk.specs.Next.{Kind, end, refused, handed, Answer}
use Rattle.walk.specs.Calls.{answer_at_call, answers}
use Rattle.walk.specs.Reach.{Mem, NoDup}
use Rattle.walk.specs.Demand.{Premises, Delivers, Third}
use Rattle.walk.specs.AnyInput.{handed_by, handed_ids}
use Rattle.walk.specs.Given.{Given, given, no_id, id_of_kind, parents_given, outcome_number, open_number}
use Rattle.walk.proofs.Calls.{answers_at}
use Rattle.walk.proofs.Whole.{third}
use Rattle.walk.proofs.Outcomes.{outcome_number-own, open_number-own}
use Rattle.state.specs.declared.Record.{Record}
use Rattle.traverse.specs.Contract.{Files, Lent, lengths_of}
use Rattle.traverse.specs.Demand.{Call, Calls, CallIs, answers_of, handed_out, files_of, Gives, OfTheWalk, Lists, AnyCalls, Shut}
use Rattle.traverse.proofs.Numbered.{HandsWide, length_up_to, hands-ids}
use Rattle.traverse.proofs.Wide.{answers-wide, answer-wide as handed-wide}
use Rattle.traverse.proofs.ThirdDemand.{third_demand}
use Rattle.wire.specs.Words.{words_after, room_to_open}
use Rattle.wire.specs.Numbers.{PutsAnswer}
use Rattle.linenhatch.specs.Library.{open_answer, Tried, LibraryOpens}
use Rattle.linenhatch.specs.Listing.{LibraryCall, LibraryCalls, ids_seen, LibraryGives, LibraryOfTheWalk, LibraryLists, LibraryDelivered, LibraryAnyCalls, LibraryShut, LibraryDemand}
use Rattle.linenhatch.proofs.NoRoom.{no_room_open}
use Rattle.linenhatch.proofs.Behind.{Behind, All, behind_all, each, as_many, AllSee, sees, all_see, take_see, ids-same, refused-same}

-- ---- every id that the walk answers with is as wide as its kind says

none-wide : (width : ℕ) → width ≤ id_room → length (id_in width no_id) ≡ width
unfolding id_in
none-wide width small = length-take-le width no_id small

kind-wide : (width : ℕ) → width ≤ id_room → (k : Kind) → ((x : Id) → Mem x (handed_by k) → length x ≡ width) → length (id_in width (id_of_kind k)) ≡ width
unfolding handed_by
kind-wide width small end w = none-wide width small
kind-wide width small (refused r) w = none-wide width small
kind-wide width small (handed x g t) w = let e = w x (Memᴰ.head refl) in ap length (id_in_lem width x e small) ∙ e

answer-wide : (i : Input) (k : ℕ) → length (id_in (width_in i) (id_of_kind (answer_at_call i k).kind)) ≡ width_in i
answer-wide i k = kind-wide (width_in i) (width-most i.settings.kind) (answer_at_call i k).kind (handed-wide i k)

-- ---- and so is every id that is to be listed: the walk hands it out

of_answers : (width : ℕ) (qs : List Answer) → HandsWide width qs → (x : Id) → Mem x (handed_ids qs) → length x ≡ width
unfolding handed_ids
of_answers width [] h x m = absurd (Memᴰ.not-nil m)
of_answers width (a ∷ qs) h x m = ⊎_elim (λ k. h a (Memᴰ.head refl) x k) (λ k. of_answers width qs (λ b n. h b (Memᴰ.tail n)) x k) (Memᴰ.append_cases (handed_by a.kind) m)

list-wide : (i : Input) (d : Delivers i) (x : Id) → Mem x d.list → length x ≡ width_in i
list-wide i d x m =
    let long : length (answers i (P i)) ≡ P i = ap length (answers_at i (P i)) ∙ length_up_to (answer_at_call i) (P i) in
    let all : handed_ids (answers i (P i)) ≡ d.list = hands-ids d.list (answers i (P i)) (d.handed_out (P i)) ∙ take_all (length (answers i (P i))) d.list (omega (arith, long, d.within)) in
    of_answers (width_in i) (answers i (P i)) (answers-wide i (P i)) x (subst (λ (l : List Id). Mem x l) (sym all) m)

in_list : (l : List Id) (k : ℕ) → k < length l → Mem (get_or l k no_id) l
in_list [] k h = absurd (omega arith)
in_list (x ∷ l) zero h = Memᴰ.head refl
in_list (x ∷ l) (suc k) h = Memᴰ.tail (in_list l k (omega arith))

-- ---- a list of calls after an accepted opening

-- the walk's answer behind a call is the one that was set down
gives : {width : ℕ} {c : LibraryCall} {d : Call} {a : Answer} → Behind width c d → Gives d a → LibraryGives width c a
gives {width} {c} {d} {a} b g = record {
  all-fields = subst (λ (x : Given). PutsAnswer width x c.id c.id' c.numbers c.numbers' c.seconds c.seconds' c.result) g.all-fields b.put;
  ids-set_down =
      sym (ap (λ (x : Lent). x.parents) b.same_left) ∙ g.ids-set_down ∙ ap (λ (x : Lent). parents_given a x.parents) b.same-lent;
}

-- cs are the library's calls, ds the walk's behind them
module _ (i : Input) {r : Record} {m : Lent} (cs : List LibraryCall) (all : All (files_of i) r m cs) (w : OfTheWalk i all.list) where
  wide : (k : ℕ) (d : Call) → CallIs all.list k d → length (id_in (width_in i) d.out.answer.info.id) ≡ width_in i
  unfolding OfTheWalk given
  wide k d p = ap (λ (a : Given). length (id_in (width_in i) a.info.id)) (w k d p).all-fields ∙ answer-wide i k

  all_seen : AllSee (width_in i) cs (answers_of all.list)
  all_seen = all_see all.paired wide

  ids : ids_seen (width_in i) cs ≡ handed_out (width_in i) (answers_of all.list)
  ids = ids-same all_seen

  of_the_walk : LibraryOfTheWalk i cs
  unfolding LibraryOfTheWalk OfTheWalk
  of_the_walk k c p = let x = each all.paired k c p in gives x.2 (w k x.0 x.1)

  -- the result of a call tells the outcome behind it
  outcome-is : {c : LibraryCall} {d : Call} → Behind (width_in i) c d → (o : Outcome) → c.result ≡ outcome_number o → d.out.answer.outcome ≡ o
  outcome-is {c} {d} b o n = outcome_number-own d.out.answer.outcome o (sym b.put.result ∙ n)

  result-is : {c : LibraryCall} {d : Call} → Behind (width_in i) c d → (o : Outcome) → d.out.answer.outcome ≡ o → c.result ≡ outcome_number o
  result-is b o n = b.put.result ∙ ap outcome_number n

  lists : (list : List Id) → ((x : Id) → Mem x list → length x ≡ width_in i) → Lists i list all.list → LibraryLists i list cs
  lists list far l = record {
    of_the_walk = of_the_walk;
    first_n = λ k c p h.
        let x = each all.paired k c p in
        let g = l.first_n k x.0 x.1 h in
        (result-is x.2 Commit g.0, (sees x.2 (wide k x.0 x.1)).id ∙ ap (id_in (width_in i)) g.1 ∙ id_in_lem (width_in i) (get_or list k no_id) (far (get_or list k no_id) (in_list list k h)) (width-most i.settings.kind));
    different = subst NoDup (sym ids) l.different;
    of_these = λ x q. l.of_these x (subst (λ (y : List Id). Mem x y) ids q);
    n_calls = λ h. ids ∙ l.n_calls (omega (arith, h, as_many all.paired));
    after_n = λ k c p h. let x = each all.paired k c p in result-is x.2 End (l.after_n k x.0 x.1 h);
    no-refusal = λ k c p q n. let x = each all.paired k c p in l.no-refusal k x.0 x.1 q (outcome-is x.2 (Refused q) n);
  }

  any-calls : AnyCalls i all.list → LibraryAnyCalls i cs
  any-calls a = record {
    of_the_walk = of_the_walk;
    different = subst NoDup (sym ids) a.different;
    sum = λ k c p.
        let x = each all.paired k c p in
        let s = sees x.2 (wide k x.0 x.1) in
        let t = take_see (suc k) all_seen in
        s.admitted ∙ a.sum k x.0 x.1 ∙ (λ j. length (sym (ids-same t) j) + sym (refused-same t) j + sym s.struck j + sym s.waiting j);
    end_by = λ k c p h. let x = each all.paired k c p in result-is x.2 End (a.end_by k x.0 x.1 h);
    end_stays = λ j k c d p q h n.
        let x = each all.paired j c p in
        let y = each all.paired k d q in
        result-is y.2 End (a.end_stays j k x.0 y.0 x.1 y.1 h (outcome-is x.2 End n));
    refused-by = λ k c p q n. let x = each all.paired k c p in a.refused-by k x.0 x.1 q (outcome-is x.2 (Refused q) n);
  }

-- ---- a call after a refused opening

pub shut-is : {width : ℕ} {c : LibraryCall} {d : Call} → Behind width c d → Shut d → LibraryShut width c
unfolding given
shut-is {width} {c} {d} b s =
    let n = b.put.result ∙ ap (λ (a : Given). outcome_number a.outcome) s.is-twelve in
    record {
      is-twelve = n;
      zeros = subst (λ (x : Given). PutsAnswer width x c.id c.id' c.numbers c.numbers' c.seconds c.seconds' c.result) s.is-twelve b.put;
      same-words = b.words_are ∙ ap (λ (q : ℕ). words_after q d.out.record c.words) n;
      nothing_altered = sym b.same_left ∙ s.nothing_altered ∙ b.same-lent;
    }

-- ---- from an opening

module _ {i : Input} {m m' : Lent} {words words' numbers numbers' : List ℕ} {n : ℕ} (t : Tried i m m' words words' numbers numbers' n) where
  -- the record's words stand for the record that was given back
  calls-of : {f : Files} {cs : List LibraryCall} → (h : LibraryCalls f words' m' cs) → Calls f t.out.record m' (behind_all h).list
  calls-of {f} h = subst (λ (r : Record). Calls f r m' (behind_all h).list) t.record_is (behind_all h).calls

  -- the outcome with the result's number
  outcome-of : (o : Result (Unit {0}) Refusal) → n ≡ open_number o → t.out.answer.outcome ≡ o
  outcome-of o k = ap (λ (x : OpenAnswer). x.outcome) t.says.answer ∙ open_number-own (open_answer i m).outcome o (sym t.result ∙ k)

  demanded : refusal i ≡ None → room_for i (lengths_of m) ≡ true → Premises (walk_of i) (list_ids (width_in i) i.tips) → LibraryDelivered i words' m' n
  unfolding Third
  demanded e room pre =
      let d = (third_demand i m).demanded t.out m' t.says e room pre in
      let v : Delivers i = third i e pre in
      record {
        accepted = t.result ∙ ap open_number (sym (ap (λ (x : OpenAnswer). x.outcome) t.says.answer) ∙ d.accepted);
        list = d.list;
        no_repeats = d.no_repeats;
        exactly = d.exactly;
        every-list = λ cs h. let l = d.every-list (behind_all h).list (calls-of h) in lists i cs (behind_all h) l.of_the_walk d.list (λ x q. list-wide i v x ((v.exactly x).1 ((d.exactly x).0 q))) l;
      }

  accepted-calls : n ≡ open_number (Ok tt) → (cs : List LibraryCall) → LibraryCalls (files_of i) words' m' cs → LibraryAnyCalls i cs
  accepted-calls k cs h =
      let e = outcome-of (Ok tt) k in
      let a = (third_demand i m).accepted-calls t.out m' t.says e (behind_all h).list (calls-of h) in
      any-calls i cs (behind_all h) a.of_the_walk a

  refused-calls : (r : Refusal) → n ≡ number_of r → (f : Files) (cs : List LibraryCall) → LibraryCalls f words' m' cs → (k : ℕ) (c : LibraryCall) → CallIs cs k c → LibraryShut (width_of f.settings.kind) c
  refused-calls r e f cs h k c p =
      let x = each (behind_all h).paired k c p in
      shut-is x.2 ((third_demand i m).refused-calls t.out m' t.says r (outcome-of (Err r) e) f (behind_all h).list (calls-of h) k x.0 x.1)

-- an opening whose result is an outcome's number had room for its record and numbers
was-tried : {i : Input} {m m' : Lent} {words words' numbers numbers' : List ℕ} {n : ℕ} → LibraryOpens i m m' words words' numbers numbers' n → (o : Result (Unit {0}) Refusal) → n ≡ open_number o
    → Tried i m m' words words' numbers numbers' n
was-tried {words = words} {numbers = numbers} s o e = by_cases (room_to_open words numbers) (λ r. s.tried r) (λ r. absurd (no_room_open o (sym e ∙ (s.no_room r).0)))

pub library_demand : (i : Input) (m m' : Lent) (words words' numbers numbers' : List ℕ) (n : ℕ) → LibraryDemand i m m' words words' numbers numbers' n
library_demand i m m' words words' numbers numbers' n = record {
  demanded = λ s room. demanded (s.tried room);
  accepted-calls = λ s e. accepted-calls (was-tried s (Ok tt) e) e;
  refused-calls = λ s r e. refused-calls (was-tried s (Err r) e) r e;
}
