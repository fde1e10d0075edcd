-- The passes that a lane is made with are all its passes.
use Rattle.std.proofs.Common.{◌≡◌, ℕ, ◌+◌, ◌-◌, ◌≤◌, List, [], ◌∷◌, ◌++◌, length, replicate, sym, ap, ◌∙◌, subst, arith, refl}
use Rattle.std.proofs.lemmas.List.{length-append}
use Rattle.std.proofs.lemmas.List.Elements.{All-push, All-replicate}
use Rattle.std.proofs.lemmas.List.Folds.{sum_by-replicate}
use Rattle.std.proofs.lemmas.List.Sums.{sum_by_push}
use Rattle.std.specs.List.{All}
use Rattle.atomic_table.specs.Seated.{TableId}
use Rattle.nvme_lane.specs.declared.rule.Hand.{Hand}
use Rattle.nvme_lane.specs.Hands.{hand}
use Rattle.nvme_lane.specs.Passes.{LaneView, PassView, AreBlank, AreAllOf, fresh, parts_of, whole}

pub same_lane : (a b : TableId) (m n : ℕ) → a ≡ b → n ≡ m → ◌≡◌ {A = LaneView} (record { name = a; capacity = m }) (record { name = b; capacity = n })
same_lane a b m n name capacity = λ i. record { name = name i; capacity = sym capacity i }

module _ {T : Type 0} where
  -- what holds of a new pass, and of one more, holds of them all
  new_and_last : (P : PassView T → Type 0) (lane : LaneView) (n : ℕ) (before pushes : List (PassView T)) (last : PassView T)
      → before ≡ replicate n (fresh lane) → pushes ≡ before ++ last ∷ [] → P (fresh lane) → P last → All P pushes
  new_and_last P lane n before pushes last new is first more =
      subst (All P) (sym is) (All-push P before last (subst (All P) (sym new) (All-replicate P n (fresh lane) first)) more)

  pub all_made : (lane a b : LaneView) (n m : ℕ) (before pushes pops : List (PassView T)) (last : PassView T) → a ≡ lane → b ≡ lane
      → before ≡ replicate n (fresh a) → pushes ≡ before ++ last ∷ [] → pops ≡ replicate m (fresh b) → last.lane ≡ lane → n + m + last.parts ≡ whole → AreAllOf lane pushes pops
  all_made lane a b n m before pushes pops last a_is b_is new is news last_is complete =
      let P : PassView T → Type 0 = λ p. p.lane ≡ lane in
      let parts : PassView T → ℕ = λ p. p.parts in
      record {
        pushes_of = new_and_last P a n before pushes last new is a_is last_is;
        pops_of = subst (All P) (sym news) (All-replicate P m (fresh b) b_is);
        some = omega (arith, ap length is, length-append before (last ∷ []));
        complete = omega (
          arith,
          complete,
          ap parts_of is,
          sum_by_push parts before last,
          ap parts_of new,
          sum_by-replicate parts n (fresh a),
          ap parts_of news,
          sum_by-replicate parts m (fresh b),
        );
      }

  pub blank_made : (a b : LaneView) (n m : ℕ) (before pushes pops : List (PassView T)) (last : PassView T)
      → before ≡ replicate n (fresh a) → pushes ≡ before ++ last ∷ [] → pops ≡ replicate m (fresh b) → last.items ≡ [] → AreBlank pushes × AreBlank pops
  blank_made a b n m before pushes pops last new is news none =
      let P : PassView T → Type 0 = λ p. p.items ≡ [] in
      (new_and_last P a n before pushes last new is refl none, subst (All P) (sym news) (All-replicate P m (fresh b) refl))

  -- the parts that split off, and those that stay
  pub all_parts : (first second third : Hand T) (n m : ℕ) → n + m ≤ whole → first ≡ hand whole [] [] → second ≡ hand (first.parts - n) first.put first.taken
      → third ≡ hand (second.parts - m) second.put second.taken → n + m + third.parts ≡ whole
  all_parts first second third n m few a b c = omega (arith, few, ap (λ (h : Hand T). h.parts) a, ap (λ (h : Hand T). h.parts) b, ap (λ (h : Hand T). h.parts) c)

  -- where a hand has put nothing, those that split from it haven't either
  pub none_put : (first second third : Hand T) (m n : ℕ) → first ≡ hand whole [] [] → second ≡ hand m first.put first.taken → third ≡ hand n second.put second.taken → third.put ≡ []
  none_put first second third m n a b c = ap (λ (h : Hand T). h.put) c ∙ ap (λ (h : Hand T). h.put) b ∙ ap (λ (h : Hand T). h.put) a
