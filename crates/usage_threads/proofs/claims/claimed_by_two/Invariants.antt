use Rattle.usage_threads.proofs.claims.claimed_by_two.Given as goal

abbrev pub ghosts-claim_both-C-Ledger : goal.ghosts-claim_both-C-Ledger
ghosts-claim_both-C-Ledger g a = record { name = a.blanks.calls.name; parts = a.blanks.calls.parts }

abbrev pub ghosts-claim_both-S-Ledger : goal.ghosts-claim_both-S-Ledger
ghosts-claim_both-S-Ledger g a = record { name = a.blanks.stored.name; parts = a.blanks.stored.parts }

abbrev pub ghosts-claim_both-M-Ledger : goal.ghosts-claim_both-M-Ledger
ghosts-claim_both-M-Ledger g a = record { name = a.blanks.removed.name; parts = a.blanks.removed.parts }

abbrev pub ghosts-claim_both-F-Ledger : goal.ghosts-claim_both-F-Ledger
ghosts-claim_both-F-Ledger g a = record { name = a.blanks.found.name; parts = a.blanks.found.parts }

abbrev pub ghosts-claim_both-D-Ledger : goal.ghosts-claim_both-D-Ledger
ghosts-claim_both-D-Ledger g a = record { name = a.blanks.done.name; parts = a.blanks.done.parts }
