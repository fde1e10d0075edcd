-- The places in hand, and the completion of a command that is answered.
use Rattle.std.proofs.Common.{◌≡◌, ℕ, ◌+◌, ◌==◌, ◌&&◌, List, [], ◌∷◌, ◌++◌, map, length, refl, sym, ap, ◌∙◌, subst, arith}
use Rattle.std.specs.Prelude.{option_map, All}
use Rattle.std.proofs.lemmas.Bool.{eq-eqb, ne_eqb}
use Rattle.std.proofs.lemmas.List.{length-append}
use Rattle.std.proofs.lemmas.List.Sums.{sum_by-cons, sum_by-append}
use Rattle.std.proofs.lemmas.List.Elements.{All-nil, All-cons, All-head, All-tail, All-same}
use Rattle.nvme_log.specs.Rules.{Past}
use Rattle.nvme_log.specs.declared.place.Place.{Place}
use Rattle.nvme_log.specs.Completions.{posted_to}
use Rattle.nvme_log.specs.Places.{one_if}
use Rattle.nvme_ctrl_content.specs.Content.{Candidate, Ready, Attachment, CqContent, Content, put_cq}
use Rattle.nvme_ctrl_content.specs.Standing.{HoldsPosts, IsInHand, IsReady, held_upto, hand_of, times_held}
use Rattle.nvme_ctrl_content.proofs.Windows.{times_in_window}
use Rattle.nvme_ctrl_content.proofs.Readying.{put-grows, at_put_cq}
use Rattle.nvme_ctrl_log.proofs.AbortRequests.{not_with_queue}
use Rattle.nvme_ctrl_content.proofs.ReadyChange.{becomes-ready}
use Rattle.nvme_ctrl_content.specs.Steps.{done}
use Rattle.nvme_ctrl_content.proofs.AfterSteps.{after_answer, place_of}
use Rattle.nvme_ctrl_content.proofs.StepKeeps.{KeepsAnswer, ReadyOnes, Posts}

-- ---- the places of candidates
-- how often a place stands among the places of candidates: in their own region as often as among the candidates
pub places-own : (r i : ℕ) (cs : List Candidate) → times_held r i (map (place_of r) cs) ≡ times_in_window i cs
places-own r i [] = refl
places-own r i (c ∷ cs) =
    let here : one_if (r == r && c.index == i) ≡ one_if (c.index == i) = rw (eq-eqb r r refl) refl in
    omega (
      arith,
      places-own r i cs,
      here,
      sum_by-cons (λ (p : Place). one_if (p.region == r && p.index == i)) (place_of r c) (map (place_of r) cs),
      sum_by-cons (λ (x : Candidate). one_if (x.index == i)) c cs,
    )

-- and never in another region
pub places-other : (a r i : ℕ) (cs : List Candidate) → (r ≡ a → ⊥) → times_held r i (map (place_of a) cs) ≡ 0
places-other a r i [] d = refl
places-other a r i (c ∷ cs) d =
    let here : one_if (a == r && c.index == i) ≡ 0 = rw (ne_eqb a r (λ e. d (sym e))) refl in
    omega (arith, places-other a r i cs d, here, sum_by-cons (λ (p : Place). one_if (p.region == r && p.index == i)) (place_of a c) (map (place_of a) cs))

-- ---- sums over the places in hand
-- how often a place stands in two lists
pub times_held-append : (r i : ℕ) (xs ys : List Place) → times_held r i (xs ++ ys) ≡ times_held r i xs + times_held r i ys
times_held-append r i xs ys = sum_by-append (λ (p : Place). one_if (p.region == r && p.index == i)) xs ys

-- what is taken out of a list leaves the others
pub times_held-taken : (r i : ℕ) (before : List Place) (p : Place) (after : List Place)
    → times_held r i (before ++ p ∷ after) ≡ one_if (p.region == r && p.index == i) + times_held r i (before ++ after)
times_held-taken r i before p after =
    omega (
      arith,
      times_held-append r i before (p ∷ after),
      times_held-append r i before after,
      sum_by-cons (λ (x : Place). one_if (x.region == r && x.index == i)) p after,
    )

-- ---- a command is answered
-- what holds of each item holds of those that are left where one is taken out, and of that one
pub All-taken : {X : Type 0} (P : X → Type 0) (before : List X) (x : X) (after : List X) → All P (before ++ x ∷ after) → P x × All P (before ++ after)
All-taken P [] x after h = (All-head P x after h, All-tail P x after h)
All-taken P (y ∷ before) x after h =
    let rest = All-taken P before x after (All-tail P y (before ++ x ∷ after) h) in
    (rest.0, All-cons P y (before ++ after) (All-head P y (before ++ x ∷ after) h) rest.1)

-- the place of an answered command goes from those in hand to those that are ready
pub ready-answer : KeepsAnswer ReadyOnes
ready-answer rules late past k p before after sqid c cid answer entry s can there names regions =
    let new : Content = after_answer k p before after sqid c cid answer in
    let t : Ready = done sqid p cid answer in
    let at : IsInHand past p = (All-taken (IsInHand past) before p after (All-same (IsInHand past) (before ++ p ∷ after) k.hand (sym can.in_hand) s.hand.each)).0 in
    becomes-ready past past k new (hand_of k) (hand_of new) c (t ∷ []) s.ready (record {
      small = s.queues.posts_there p.region (record { qid = sqid; cq_region = c }) can.attached;
      ncq = refl;
      grows = put-grows k.cq c (t ∷ []);
      posts = λ r i. refl;
      served = λ r i.
          omega (
            arith,
            times_held-append r i k.hand (held_upto k.deletion k.nsq),
            times_held-append r i (before ++ after) (held_upto k.deletion k.nsq),
            ap (times_held r i) can.in_hand,
            times_held-taken r i before p after,
          );
      stay = λ x u served h. h;
      new = All-cons (IsReady past k.deletion c) t [] (record {
        region = s.queues.cq_region_is p.region ∙ ap (option_map (λ (a : Attachment). a.cq_region)) can.attached;
        queue = s.queues.qid_is p.region ∙ ap (option_map (λ (a : Attachment). a.qid)) can.attached;
        entry = entry;
        is_there = there;
        cid = names;
        with_queue = sym (not_with_queue past p.region p.index at.not_aborted);
        deleting = λ e. cc;
      }) (All-nil (IsReady past k.deletion c));
      taken =
          omega (
            arith,
            length-append k.hand (held_upto k.deletion k.nsq),
            length-append (before ++ after) (held_upto k.deletion k.nsq),
            length-append before after,
            length-append before (p ∷ after),
            ap (λ (ps : List Place). length ps) can.in_hand,
          );
      admin_qid = s.ready.admin_qid;
      admin_region = s.ready.admin_region;
    })

-- what is put and counted at a completion region isn't changed by what is ready
pub same_posts : (past later : Past) (k after : Content) (a : ℕ) (ts : List Ready) → HoldsPosts past k
    → put_cq k.cq a (record (k.cq a) { ready = ts }) ≡ after.cq → ((c : ℕ) → posted_to later c ≡ posted_to past c) → HoldsPosts later after
same_posts past later k after a ts h is same = record {
  posted_is = subst (λ (f : ℕ → CqContent). (c : ℕ) → posted_to later c ≡ (f c).sent) is
      (at_put_cq (λ (c : ℕ) (s : CqContent). posted_to later c ≡ s.sent) k.cq a (record (k.cq a) { ready = ts }) (same a ∙ h.posted_is a) (λ c d. same c ∙ h.posted_is c));
  counted = subst (λ (f : ℕ → CqContent). (c : ℕ) → (f c).posted ≡ length (f c).sent) is
      (at_put_cq (λ (c : ℕ) (s : CqContent). s.posted ≡ length s.sent) k.cq a (record (k.cq a) { ready = ts }) (h.counted a) (λ c d. h.counted c));
}

-- an answer posts nothing
pub posts-answer : KeepsAnswer Posts
posts-answer rules late past k p before after sqid c cid answer entry s can there names =
    same_posts past past k (after_answer k p before after sqid c cid answer) c _ s.posts refl (λ x. refl)
