-- What openings, calls and listings promise is said of the walk, and the walk is the same: so are they. Assumes nothing.
use Rattle.std.specs.Prelude.{Err, Ok, Result}
use mathlib.Core.Path.{◌≡◌, refl, sym, ap, ◌∙◌}
use mathlib.Core.List.{List}
use Prim.Native.Nat.{ℕ, ◌+◌, ◌/◌}
use lib.ListN.{length, take}
use Rattle.hash.specs.Bytes.{Id, set_down}
use Rattle.walk.specs.declared.Refusal.{Refusal}
use Rattle.walk.specs.Opening.{Input, width_in, room_for, Opening, closed, opened, open_walk}
use Rattle.walk.specs.Next.{Answer}
use Rattle.walk.specs.Calls.{answers, answer_at_call}
use Rattle.walk.specs.AnyInput.{handed_ids}
use Rattle.walk.specs.Given.{given, parents_given, joined, open_given}
use Rattle.traverse.specs.declared.Opened.{Opened}
use Rattle.traverse.specs.Contract.{Lent, lengths_of, OpenSays}
use Rattle.traverse.specs.Demand.{Call, Calls, files_of, CallIs, Gives, OfTheWalk, Shut}
use Rattle.traverse.proofs.ThirdDemand.{third_demand}
use Rattle.lister.specs.declared.Listing.{Listing}
use Rattle.lister.specs.Says.{listing, Whole, ListSays}
use Rattle.driver.specs.Walked.{all_answers, whole_list}
use Rattle.lister.specs.Walked.{refusals, first_refusal}
use Rattle.embargo.specs.Embargo.{DifferOnlyInFeed}
use Rattle.embargo.specs.Outside.{over, Alike, SameListing, SameLists}
use Rattle.embargo.proofs.Walks.{room-same, same-walk}

-- ---- one call each

gives_alike : {c d : Call} {a b : Answer} → a ≡ b → Gives c a → Gives d b → Alike c d
gives_alike {c} {d} {a} {b} e g h = record {
  same_answer = g.all-fields ∙ ap given e ∙ sym h.all-fields;
  same-ids = λ p. g.ids-set_down ∙ (λ j. parents_given (e j) (p j)) ∙ sym h.ids-set_down;
}

pub shut_alike : {c d : Call} → Shut c → Shut d → Alike c d
shut_alike s t = record {
  same_answer = s.is-twelve ∙ sym t.is-twelve;
  same-ids = λ p. ap (λ (m : Lent). m.parents) s.nothing_altered ∙ p ∙ sym (ap (λ (m : Lent). m.parents) t.nothing_altered);
}

walk_gives : (i : Input) (cs : List Call) → OfTheWalk i cs → (k : ℕ) (c : Call) → CallIs cs k c → Gives c (answer_at_call i k)
unfolding OfTheWalk
walk_gives i cs f = f

-- ---- openings, calls and listings

module _ (i : Input) (es : List Id) (a b : List ℕ) (d : DifferOnlyInFeed (width_in i) es a b) where
  pub open-same : (m n : Lent) → lengths_of m ≡ lengths_of n → open_walk (over i a) (room_for (over i a) (lengths_of m)) ≡ open_walk (over i b) (room_for (over i b) (lengths_of n))
  open-same m n e =
      (same-walk i es a b d).opening (room_for (over i a) (lengths_of m))
      ∙ ap (open_walk (over i b)) (room-same i es a b d (lengths_of m) ∙ ap (room_for (over i b)) e)

  pub answers-alike : (m n : Lent) → lengths_of m ≡ lengths_of n → (o q : Opened) (m' n' : Lent) → OpenSays (over i a) m o m' → OpenSays (over i b) n q n' → o.answer ≡ q.answer
  answers-alike m n e o q m' n' s t = s.answer ∙ ap open_given (open-same m n e) ∙ sym t.answer

  pub calls-alike : (m n : Lent) → lengths_of m ≡ lengths_of n → (o q : Opened) (m' n' : Lent) → OpenSays (over i a) m o m' → OpenSays (over i b) n q n'
      → (cs ds : List Call) → Calls (files_of (over i a)) o.record m' cs → Calls (files_of (over i b)) q.record n' ds
      → (k : ℕ) (c f : Call) → CallIs cs k c → CallIs ds k f → Alike c f
  calls-alike m n e o q m' n' s t cs ds u v k c f x y = go o.answer.outcome refl
    where
      same : q.answer.outcome ≡ o.answer.outcome
      same = sym (ap (λ z. z.outcome) (answers-alike m n e o q m' n' s t))

      go : (z : Result (Unit {0}) Refusal) → o.answer.outcome ≡ z → Alike c f
      go (Ok _) p =
          gives_alike ((same-walk i es a b d).answer_at k) (walk_gives (over i a) cs ((third_demand (over i a) m).accepted-calls o m' s p cs u).of_the_walk k c x)
          (walk_gives (over i b) ds ((third_demand (over i b) n).accepted-calls q n' t (same ∙ p) ds v).of_the_walk k f y)
      go (Err r) p =
          shut_alike ((third_demand (over i a) m).refused-calls o m' s r p (files_of (over i a)) cs u k c x)
          ((third_demand (over i b) n).refused-calls q n' t r (same ∙ p) (files_of (over i b)) ds v k f y)

  -- ---- whole listings

  pub all_same : all_answers (over i a) ≡ all_answers (over i b)
  all_same = λ j. (same-walk i es a b d).all-answers ((same-walk i es a b d).places j + 2) j

  pub list_same : whole_list (over i a) ≡ whole_list (over i b)
  unfolding whole_list
  list_same = ap handed_ids all_same

  pub lists-alike : SameLists (over i a) (over i b)
  unfolding SameLists
  lists-alike m n e ids l k m' n' ids' ids'' s t = go (open_walk (over i a) (room_for (over i a) (lengths_of m))) refl
    where
      go : (z : Opening) → open_walk (over i a) (room_for (over i a) (lengths_of m)) ≡ z → SameListing l k ids' ids''
      go (closed r) p =
          let x = s.refused_open r p in
          let y = t.refused_open r (sym (open-same m n e) ∙ p) in
          let z : l ≡ k = x.0 ∙ sym y.0 in
          record {
            outcome = ap (λ (h : Listing). h.outcome) z;
            commits = ap (λ (h : Listing). h.commits) z;
            refused = ap (λ (h : Listing). h.refused) z;
            reason = ap (λ (h : Listing). h.reason) z;
            set_down = x.2 ∙ sym y.2;
          }
      go (opened st) p =
          let x = s.accepted_open st p in
          let y = t.accepted_open st (sym (open-same m n e) ∙ p) in
          record {
            outcome = x.accepted ∙ sym y.accepted;
            commits = x.commits ∙ ap length list_same ∙ sym y.commits;
            refused = x.refused ∙ ap refusals all_same ∙ sym y.refused;
            reason = x.reason ∙ ap first_refusal all_same ∙ sym y.reason;
            set_down = x.set_down ∙ ap (λ (h : List Id). set_down ids 0 (joined (take (length ids / width_in i) h))) list_same ∙ sym y.set_down;
          }
