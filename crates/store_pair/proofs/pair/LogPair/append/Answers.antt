use Rattle.std.proofs.Common.{◌≡◌, inl, inr, ◌∷◌, [], ◌++◌, sym, ◌∙◌, ap, subst}
use Rattle.store_log.specs.Log.{Contents}
use Rattle.store_log.specs.Spare.{AreOlder}
use Rattle.store_log.specs.declared.head.Head.{Head}
use Rattle.store_pair.specs.Pair.{counted_in, other_in, pair_of}
use Rattle.store_pair.proofs.Pairs.{caused_both, clean_parts, either_pair, err_then, failed_one, hold_parts, leave_pair, ok_both, ran, still_clean, still_leaves, stopped_or_not}
use Rattle.store_pair.proofs.pair.LogPair.append.Goals as goal

pub invariant_of-self : goal.invariant_of-self
invariant_of-self g c =
    let old = c.self.inside.log in
    let new = c.append.new.self in
    record {
      leaves = still_leaves c.append.result g.D.Disk.is_clean g.D.Disk.may_leave old new c.append.ensures.head c.append.ensures.kept c.append.ensures.refused;
      older = λ runs clean spare_clean.
          let ran_before = ran old.stopped new.stopped (λ on. ap (λ (v : Contents g.row.D.Denot). v.stopped) (c.append.ensures.stopped on).1) runs in
          subst (λ (h : Head). AreOlder h.generation (g.D.Disk.may_leave c.self.inside.spare)) (sym c.append.ensures.head) (c.self.invariant.older ran_before (c.append.ensures.clean clean) spare_clean);
    }

pub returns-clause-appended : goal.returns-clause-appended
returns-clause-appended g c =
    let inside = c.self.inside in
    rw (← c.self.view_is) (ok_both c.append.result c.append.ensures.appended c.append.ensures.runs (λ appended runs clean. appended (clean_parts g.D.Disk.is_clean inside.swapped c.append.new.self.disk inside.spare clean).0))

pub returns-clause-kept : goal.returns-clause-kept
returns-clause-kept g c =
    let inside = c.self.inside in
    let old = inside.log in
    let new = c.append.new.self in
    ok_both c.append.result c.append.ensures.kept c.append.ensures.runs (λ kept runs clean.
    let parts = clean_parts g.D.Disk.is_clean inside.swapped new.disk inside.spare clean in
    let ran_before = ran old.stopped new.stopped (λ on. ap (λ (v : Contents g.row.D.Denot). v.stopped) (c.append.ensures.stopped on).1) runs in
    let older = subst (λ (h : Head). AreOlder h.generation (g.D.Disk.may_leave inside.spare)) (sym c.append.ensures.head) (c.self.invariant.older ran_before (c.append.ensures.clean parts.0) parts.1) in
    leave_pair g.D.Disk.may_leave inside.swapped new.disk inside.spare new.head new.texts (kept parts.0) older)

pub returns-clause-crash : goal.returns-clause-crash
returns-clause-crash g c =
    let inside = c.self.inside in
    let old = inside.log in
    let new = c.append.new.self in
    rw (← c.self.view_is) (λ clean runs left may.
    let parts = clean_parts g.D.Disk.is_clean inside.swapped new.disk inside.spare clean in
    let held = hold_parts g.D.Disk.may_leave inside.swapped new.disk inside.spare left may in
    let older = c.self.invariant.older runs (c.append.ensures.clean parts.0) parts.1 in
    either_pair inside.swapped old.head old.texts (old.texts ++ c.args.text.now ∷ []) left (c.append.ensures.crash parts.0 runs (counted_in inside.swapped left) held.0) (older (other_in inside.swapped left) held.1))

pub returns-clause-refused : goal.returns-clause-refused
returns-clause-refused g c =
    let inside = c.self.inside in
    let old = inside.log in
    let new = c.append.new.self in
    rw (← c.self.view_is) (err_then c.append.result c.append.ensures.refused (λ refused.
    elim (stopped_or_not old.stopped) [
      | inl on ↦ inl (ap (λ (v : Contents g.row.D.Denot). v.stopped) (c.append.ensures.stopped on).1 ∙ on)
      | inr off ↦ elim refused [
        | inl on ↦ inl on
        | inr same ↦ inr (λ clean.
            let parts = clean_parts g.D.Disk.is_clean inside.swapped new.disk inside.spare clean in
            let kept = same parts.0 in
            (kept.0, leave_pair g.D.Disk.may_leave inside.swapped new.disk inside.spare old.head old.texts kept.1 (c.self.invariant.older off (c.append.ensures.clean parts.0) parts.1)))
      ]
    ]))

pub returns-clause-cause : goal.returns-clause-cause
returns-clause-cause g c =
    let inside = c.self.inside in
    rw (← c.self.view_is) (caused_both c.append.result (failed_one g.D.Disk.faults inside.swapped inside.log.disk inside.spare c.append.new.self.disk) (λ (same : c.append.new.self ≡ inside.log). ap (λ (l : Contents g.row.D.Denot). pair_of inside.swapped l inside.spare) same) c.append.ensures.cause)

pub returns-clause-stopped : goal.returns-clause-stopped
returns-clause-stopped g c =
    let inside = c.self.inside in
    rw (← c.self.view_is) (λ on.
    let is = c.append.ensures.stopped on in
    (is.0, ap (λ (l : Contents g.row.D.Denot). pair_of inside.swapped l inside.spare) is.1))

pub returns-clause-head : goal.returns-clause-head
returns-clause-head g c = rw (← c.self.view_is) c.append.ensures.head

pub returns-clause-clean : goal.returns-clause-clean
returns-clause-clean g c = rw (← c.self.view_is) (still_clean g.D.Disk.is_clean c.self.inside.swapped c.self.inside.log.disk c.self.inside.spare c.append.new.self.disk c.append.ensures.clean)
