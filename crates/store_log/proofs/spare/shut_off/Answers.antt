use Rattle.std.proofs.Common.{ℕ, List, [], ◌∷◌, sym, ◌∙◌, subst, arith, IsTrue}
use Rattle.std.proofs.lemmas.Result.{err_from_is_err_and}
use Rattle.sqlite_disk.specs.Disk.{Follows, Holds, Torn}
use Rattle.store_log.specs.Spare.{IsGateOf}
use Rattle.store_log.proofs.Returned.{if_err_then, ok_after}
use Rattle.store_log.proofs.Spares.{closed_is, older_after, open_closing, spoiled_closing, spoiled_open, spoiling}
use Rattle.store_log.proofs.spare.shut_off.Goals.{then-gate+in_ok-write_synced, else-gate}
use Rattle.store_log.proofs.spare.shut_off.Goals as goal

pub returns-in_err-write_synced-clause-older : goal.returns-in_err-write_synced-clause-older
returns-in_err-write_synced-clause-older g c generation clean older =
    let disk = c.gate_of.new.disk in
    let seen = g.D.Disk.seen disk in
    let is = subst (λ (s : List ℕ). IsGateOf s c.in_ok-gate.gate) (sym c.gate_of.ensures.seen) (c.in_ok-gate.ensures.gate (c.write_synced.ensures.clean clean)) in
    older_after generation seen (Torn 1 1) (g.D.Disk.may_leave disk) (g.D.Disk.may_leave c.write_synced.new.disk)
    (λ file left. c.in_ok-sync.ensures.durable file (c.gate_of.ensures.crash file left) ∙ sym c.sync.ensures.seen ∙ sym c.gate_of.ensures.seen)
    c.write_synced.ensures.crash (λ file left. older file (c.sync.ensures.crash file (c.gate_of.ensures.crash file left)))
    (λ file o torn. spoiling generation seen file c.in_ok-gate.gate o is c.if-gate-eq0.false c.if-gate.true torn)

pub returns-clause-shut : goal.returns-clause-shut
returns-clause-shut g c = ok_after c.write_synced-2.result c.write_synced-2.ensures.written (λ written clean. closed_is (g.D.Disk.seen c.write_synced-2.new.disk) (written (omega arith)))

pub returns-clause-older : goal.returns-clause-older
returns-clause-older g c generation clean older =
    let may_leave = g.D.Disk.may_leave in
    let disk = c.gate_of.new.disk in
    let seen = g.D.Disk.seen disk in
    let last = c.write_synced-2.new.disk in
    let gate = c.in_ok-gate.gate in
    let read : IsTrue (g.D.Disk.is_clean disk) → IsGateOf seen gate = λ was. subst (λ (s : List ℕ). IsGateOf s gate) (sym c.gate_of.ensures.seen) (c.in_ok-gate.ensures.gate was) in
    elim c.if-gate.branch [
      | then-gate+in_ok-write_synced w ↦
          let spoiled = w.write_synced.new.disk in
          let was = w.write_synced.ensures.clean (subst (λ d. IsTrue (g.D.Disk.is_clean d)) w.disk-is (c.write_synced-2.ensures.clean clean)) in
          let first = older_after generation seen (Torn 1 1) (may_leave disk) (may_leave spoiled)
          (λ file left. c.in_ok-sync.ensures.durable file (c.gate_of.ensures.crash file left) ∙ sym c.sync.ensures.seen ∙ sym c.gate_of.ensures.seen)
          w.write_synced.ensures.crash (λ file left. older file (c.sync.ensures.crash file (c.gate_of.ensures.crash file left)))
          (λ file o torn. spoiling generation seen file gate o (read was) c.if-gate-eq0.false w.if-gate.true torn) in
          let holds : Holds (g.D.Disk.seen spoiled) 1 (0 ∷ []) = w.in_ok-write_synced.ensures.written (omega arith) in
          older_after generation (g.D.Disk.seen spoiled) (Torn 0 1) (may_leave spoiled) (may_leave last) w.in_ok-write_synced.ensures.durable
          (subst (λ d. Follows (Torn 0 1) (may_leave d) (may_leave last)) w.disk-is c.write_synced-2.ensures.crash) first
          (λ file o torn. spoiled_closing generation (g.D.Disk.seen spoiled) file o (spoiled_open seen (g.D.Disk.seen spoiled) gate (read was) c.if-gate-eq0.false w.if-gate.true w.write_synced.ensures.others) holds torn)
      | else-gate w ↦
          let was = subst (λ d. IsTrue (g.D.Disk.is_clean d)) w.disk-is (c.write_synced-2.ensures.clean clean) in
          older_after generation seen (Torn 0 1) (may_leave disk) (may_leave last)
          (λ file left. c.in_ok-sync.ensures.durable file (c.gate_of.ensures.crash file left) ∙ sym c.sync.ensures.seen ∙ sym c.gate_of.ensures.seen)
          (subst (λ d. Follows (Torn 0 1) (may_leave d) (may_leave last)) w.disk-is c.write_synced-2.ensures.crash)
          (λ file left. older file (c.sync.ensures.crash file (c.gate_of.ensures.crash file left)))
          (λ file o torn. open_closing generation seen file o (subst (λ (k : ℕ). IsGateOf seen k) w.if-gate.false (read was)) torn)
    ]

pub returns-in_err-gate-clause-cause : goal.returns-in_err-gate-clause-cause
returns-in_err-gate-clause-cause g c =
    let p = err_from_is_err_and c.from_residual-in_err-gate.result c.from_residual-in_err-gate.ensures.1 in
    rw (p.1, p.2) c.in_err-gate.ensures.cause

pub returns-in_err-write_synced-clause-cause : goal.returns-in_err-write_synced-clause-cause
returns-in_err-write_synced-clause-cause g c =
    let p = err_from_is_err_and c.from_residual-in_err-write_synced.result c.from_residual-in_err-write_synced.ensures.1 in
    rw (p.1, p.2) c.in_err-write_synced.ensures.cause.0

pub returns-clause-cause : goal.returns-clause-cause
returns-clause-cause g c = if_err_then c.write_synced-2.result c.write_synced-2.ensures.cause (λ e cause. cause.0)
