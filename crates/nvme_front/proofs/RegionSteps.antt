-- The queue table of the regions of a front.
use Rattle.std.proofs.Common.{◌≡◌, true, List, [], ◌∷◌, ◌++◌, map, sym, ap, ◌∙◌, refl, subst, append-nil}
use Rattle.std.proofs.lemmas.List.{map-append, reverse-append}
use Rattle.nvme_entry.specs.declared.submission.Sqe.{Sqe}
use Rattle.nvme_entry.specs.declared.completion.Cqe.{Cqe}
use Rattle.nvme_lane.specs.View.{GetView, PutView}
use Rattle.nvme_admin.specs.History.{Submission, Completion, Start, RegionAdded, TableHistory}
use Rattle.nvme_admin.specs.Accepted.{queue_table}
use Rattle.nvme_admin.specs.declared.region.Region.{Region}
use Rattle.nvme_engine.specs.Regions.{only_adds}
use Rattle.nvme_engine.proofs.Additions.{added_sqs, added_cqs, first_table, table_of-additions, same_table, added_sqs-append, added_cqs-append, only_adds-append}
use Rattle.nvme_front.specs.Regions.{sq_steps, cq_steps}

-- the regions of ends
abbrev pub region_of_get : GetView Sqe → Region
region_of_get g = record { address = g.address; slots = g.slots }

abbrev pub region_of_put : PutView Cqe → Region
region_of_put p = record { address = p.address; slots = p.slots }

-- the first region of a kind was added first
sq_steps-cons : (g : GetView Sqe) (gets : List (GetView Sqe)) → sq_steps (g ∷ gets) ≡ sq_steps gets ++ RegionAdded Submission g.address g.slots ∷ []
sq_steps-cons g gets =
    reverse-append (RegionAdded Submission g.address g.slots ∷ []) (map (λ (x : GetView Sqe). RegionAdded Submission x.address x.slots) gets)

cq_steps-cons : (p : PutView Cqe) (puts : List (PutView Cqe)) → cq_steps (p ∷ puts) ≡ cq_steps puts ++ RegionAdded Completion p.address p.slots ∷ []
cq_steps-cons p puts =
    reverse-append (RegionAdded Completion p.address p.slots ∷ []) (map (λ (x : PutView Cqe). RegionAdded Completion x.address x.slots) puts)

-- the steps add these regions of each kind, and nothing else
pub record AddsRegions (gets : List (GetView Sqe)) (puts : List (PutView Cqe)) (h : TableHistory) : Type 0 where
  pub only : only_adds h ≡ true
  pub sqs : added_sqs h ≡ map region_of_get gets
  pub cqs : added_cqs h ≡ map region_of_put puts

adds_sqs : (gets : List (GetView Sqe)) → AddsRegions gets [] (sq_steps gets)
adds_sqs [] = record { only = refl; sqs = refl; cqs = refl }
adds_sqs (g ∷ gets) =
    let before = adds_sqs gets in
    let last : TableHistory = RegionAdded Submission g.address g.slots ∷ [] in
    subst (λ (h : TableHistory). AddsRegions (g ∷ gets) [] h) (sym (sq_steps-cons g gets)) (record {
      only = only_adds-append (sq_steps gets) last before.only refl;
      sqs = added_sqs-append (sq_steps gets) last ∙ ap (λ (rs : List Region). region_of_get g ∷ rs) before.sqs;
      cqs = added_cqs-append (sq_steps gets) last ∙ before.cqs;
    })

adds_cqs : (puts : List (PutView Cqe)) → AddsRegions [] puts (cq_steps puts)
adds_cqs [] = record { only = refl; sqs = refl; cqs = refl }
adds_cqs (p ∷ puts) =
    let before = adds_cqs puts in
    let last : TableHistory = RegionAdded Completion p.address p.slots ∷ [] in
    subst (λ (h : TableHistory). AddsRegions [] (p ∷ puts) h) (sym (cq_steps-cons p puts)) (record {
      only = only_adds-append (cq_steps puts) last before.only refl;
      sqs = added_sqs-append (cq_steps puts) last ∙ before.sqs;
      cqs = added_cqs-append (cq_steps puts) last ∙ ap (λ (rs : List Region). region_of_put p ∷ rs) before.cqs;
    })

-- those of a front
pub adds_regions : (gets : List (GetView Sqe)) (puts : List (PutView Cqe)) → AddsRegions gets puts (cq_steps puts ++ sq_steps gets)
adds_regions gets puts =
    let s = adds_sqs gets in
    let c = adds_cqs puts in
    record {
      only = only_adds-append (cq_steps puts) (sq_steps gets) c.only s.only;
      sqs = added_sqs-append (cq_steps puts) (sq_steps gets) ∙ (λ i. s.sqs i ++ c.sqs i) ∙ append-nil (map region_of_get gets);
      cqs = added_cqs-append (cq_steps puts) (sq_steps gets) ∙ (λ i. s.cqs i ++ c.cqs i);
    }

-- the queue table of a front's regions
pub table_is : (start : Start) (gets : List (GetView Sqe)) (puts : List (PutView Cqe))
    → queue_table start (cq_steps puts ++ sq_steps gets) ≡ first_table start (map region_of_get gets) (map region_of_put puts)
table_is start gets puts =
    let adds = adds_regions gets puts in
    table_of-additions start (cq_steps puts ++ sq_steps gets) adds.only ∙ (λ i. first_table start (adds.sqs i) (adds.cqs i))

-- the same regions give the same queue table, in whatever order those of the two kinds were added
table_of-regions : (start : Start) (gets : List (GetView Sqe)) (puts : List (PutView Cqe)) (h : TableHistory) → AddsRegions gets puts h
    → queue_table start (cq_steps puts ++ sq_steps gets) ≡ queue_table start h
table_of-regions start gets puts h adds =
    let own = adds_regions gets puts in
    same_table start (cq_steps puts ++ sq_steps gets) h own.only adds.only (own.sqs ∙ sym adds.sqs) (own.cqs ∙ sym adds.cqs)

-- a submission region more, wherever its step stands among those of the completion regions
pub sq_more-table : (start : Start) (gets : List (GetView Sqe)) (puts : List (PutView Cqe)) (g : GetView Sqe)
    → queue_table start (cq_steps puts ++ sq_steps (gets ++ g ∷ [])) ≡ queue_table start (RegionAdded Submission g.address g.slots ∷ (cq_steps puts ++ sq_steps gets))
sq_more-table start gets puts g =
    let before = adds_regions gets puts in
    table_of-regions start (gets ++ g ∷ []) puts (RegionAdded Submission g.address g.slots ∷ (cq_steps puts ++ sq_steps gets)) (record {
      only = before.only;
      sqs = ap (λ (rs : List Region). rs ++ region_of_get g ∷ []) before.sqs ∙ sym (map-append region_of_get gets (g ∷ []));
      cqs = before.cqs;
    })

-- a completion region more
pub cq_more-table : (start : Start) (gets : List (GetView Sqe)) (puts : List (PutView Cqe)) (p : PutView Cqe)
    → queue_table start (cq_steps (puts ++ p ∷ []) ++ sq_steps gets) ≡ queue_table start (RegionAdded Completion p.address p.slots ∷ (cq_steps puts ++ sq_steps gets))
cq_more-table start gets puts p =
    let before = adds_regions gets puts in
    table_of-regions start gets (puts ++ p ∷ []) (RegionAdded Completion p.address p.slots ∷ (cq_steps puts ++ sq_steps gets)) (record {
      only = before.only;
      sqs = before.sqs;
      cqs = ap (λ (rs : List Region). rs ++ region_of_put p ∷ []) before.cqs ∙ sym (map-append region_of_put puts (p ∷ []));
    })
