use Rattle.std.proofs.Common.{◌≡◌, ℕ, Bool, false, not, ◌&&◌, List, ap, subst, sym}
use Rattle.sqlite_disk.specs.Disk.{Only}
use Rattle.sqlite_disk.specs.declared.fuse.Fuse.{Fuse}
use Rattle.store_codec.specs.Records.{record_at}
use Rattle.store_pair.specs.Pair.{AreSettled, AreUsable, Held, held_in}
use Rattle.store_pair.specs.declared.files.Files.{Files}
use Rattle.tree_node.proofs.Common.{fits}
use Rattle.tree_store.specs.Store.{StandFor}
use Rattle.store_restart.proofs.Fronts.{err_so, ok_so}
use Rattle.store_restart.proofs.restart.stops_and_restarts.Goals as goal

-- files behind fuses read as they do
fused_held : {D : Type 0} (seen : D → List ℕ) (one other : Fuse D) (files : Files D) → one.inner ≡ files.first → other.inner ≡ files.second → held_in seen files ≡ record { first = seen one.inner; second = seen other.inner }
fused_held seen one other files first second = cc (ap seen first, ap seen second)

-- and may be used as they may
fused_usable : {D : Type 0} (is_usable : D → Bool) (one other : Fuse D) (files : Files D) → one.inner ≡ files.first → other.inner ≡ files.second → one.sync_refused ≡ false → other.sync_refused ≡ false → AreUsable is_usable files → AreUsable (λ f. is_usable f.inner && not f.sync_refused) (record { first = one; second = other })
fused_usable is_usable one other files first second one_fresh other_fresh usable = (rw first (rw one_fresh search), rw second (rw other_fresh search))

-- a crash leaves of them what it does
fused_settled : {D : Type 0} (seen : D → List ℕ) (may_leave : D → List ℕ → Type 0) (one other : Fuse D) (files : Files D) → one.inner ≡ files.first → other.inner ≡ files.second → AreSettled seen may_leave files → AreSettled (λ f. seen f.inner) (λ f. may_leave f.inner) (record { first = one; second = other })
fused_settled {D = D} seen may_leave one other files first second settled =
    (subst (λ (f : D). Only (seen f) (may_leave f)) (sym first) settled.0, subst (λ (f : D). Only (seen f) (may_leave f)) (sym second) settled.1)

pub returns-clause-sound : goal.returns-clause-sound
returns-clause-sound g c =
    err_so c.finds_a_front.result.1 c.finds_a_front.ensures.sound (λ e sound clean refuses pairs stand.
    let read = record_at g.K.Encode.value_at g.V.Encode.value_at in
    let kinds : ℕ × ℕ = (g.K.Encode.kind_number, g.V.Encode.kind_number) in
    let same = fused_held g.D.Disk.seen c.new.result c.new-2.result c.args.files c.new.ensures.inner c.new-2.ensures.inner in
    sound clean refuses pairs (subst (λ (held : Held). StandFor g.K.Ord.cmp g.K.Encode.seen g.V.Encode.seen read kinds held pairs) same stand))

pub returns-clause-found : goal.returns-clause-found
returns-clause-found g c =
    ok_so c.finds_a_front.result.1 c.finds_a_front.ensures.found (λ store found clean pairs stand.
    let read = record_at g.K.Encode.value_at g.V.Encode.value_at in
    let kinds : ℕ × ℕ = (g.K.Encode.kind_number, g.V.Encode.kind_number) in
    let same = fused_held g.D.Disk.seen c.new.result c.new-2.result c.args.files c.new.ensures.inner c.new-2.ensures.inner in
    found clean pairs (subst (λ (held : Held). StandFor g.K.Ord.cmp g.K.Encode.seen g.V.Encode.seen read kinds held pairs) same stand))

pub finds_a_front-requires : goal.finds_a_front-requires
finds_a_front-requires g c =
    let one = c.new.ensures in
    let other = c.new-2.ensures in (
      search fits,
      (
        fused_usable g.D.Disk.is_usable c.new.result c.new-2.result c.args.files one.inner other.inner one.fresh.1 other.fresh.1 c.requires.usable,
        fused_settled g.D.Disk.seen g.D.Disk.may_leave c.new.result c.new-2.result c.args.files one.inner other.inner c.requires.settled,
      ),
    )
