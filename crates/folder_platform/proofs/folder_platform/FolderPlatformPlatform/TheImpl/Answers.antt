-- The clauses of the trait follow from the calls that each method asks.
use Rattle.std.proofs.Common.{◌≡◌, ◌+◌, refl, sym, ◌∙◌}
use Rattle.std.proofs.lemmas.Result.{IfOk-weaker}
use Rattle.folder_platform.proofs.Asking.{if_ok_also, same_cell, cell_with_page, calm_where_done, asked_append, asked_read, asked_load, asked_sync, asked_replace, asked_clear}
use Rattle.folder_platform.proofs.folder_platform.FolderPlatformPlatform.TheImpl.Goals as goal

pub append-tells : goal.append-tells
append-tells g c =
    let old = c.args.self.now in
    let new = c.new.self.now in
    let does = asked_append _ _ _ _ old.told new.told c.ensures.files old.head c.args.page.now old.readable old.recorded c.result c.ensures.asks in
    record {
      address = if_ok_also c.result (λ address. address ≡ old.head) (new.head ≡ old.head + 1) c.ensures.address (rw new.recorded at does.risen);
      appended = λ told. does.done;
      either = λ told. does.either;
      cell = λ told. cell_with_page _ _ c.args.page.now does.either;
      time = λ told. does.time;
      head = rw new.recorded at does.head;
      capacity = refl;
      counts = λ told. (does.reads.0, does.reads.1, does.changes);
      faults = c.ensures.faults;
      cause = c.ensures.cause;
    }

pub read-tells : goal.read-tells
read-tells g c =
    let old = c.args.self.now in
    let new = c.new.self.now in
    let does = asked_read _ _ _ _ old.told new.told c.ensures.files c.args.addr c.new.into.now c.result c.ensures.asks in
    record {
      page = λ told. does.found (told (g.C.PageCalls.start new.calls) (g.C.PageCalls.events new.calls) (g.met.C.PageCalls.occurred new.calls));
      image = λ told. does.look.image;
      time = λ told. does.look.time;
      head = sym new.recorded ∙ does.look.recorded ∙ old.recorded;
      capacity = refl;
      reads_ok = λ told. does.look.answered;
      reads = λ told. does.look.reads;
      pages_alone = λ told. (does.page_reads, does.look.changes);
      faults = c.ensures.faults;
      cause = c.ensures.cause;
    }

pub sync-tells : goal.sync-tells
sync-tells g c =
    let old = c.args.self.now in
    let new = c.new.self.now in
    let does = asked_sync _ _ _ _ old.told new.told c.ensures.files (λ done. old.settled (calm_where_done old.is_stuck _ old.stuck done)) c.result c.ensures.asks in
    record {
      synced = λ told. does.done;
      either = λ told. does.either;
      cell = λ told. same_cell _ _ _ refl does.either;
      time = λ told. does.time;
      head = sym new.recorded ∙ does.recorded ∙ old.recorded;
      capacity = refl;
      reads = λ told. does.reads;
      changes = λ told. does.changes;
      faults = c.ensures.faults;
      cause = c.ensures.cause;
    }

pub load_root-tells : goal.load_root-tells
load_root-tells g c =
    let old = c.args.self.now in
    let new = c.new.self.now in
    let does = asked_load _ _ _ _ old.told new.told c.ensures.files c.new.into.now c.result c.ensures.asks in
    record {
      full = λ told. IfOk-weaker c.result _ _ (λ full is. is.0) (does.cell (told (g.C.PageCalls.start new.calls) (g.C.PageCalls.events new.calls) (g.met.C.PageCalls.occurred new.calls)));
      bytes = λ told. IfOk-weaker c.result _ _ (λ full is. is.1) (does.cell (told (g.C.PageCalls.start new.calls) (g.C.PageCalls.events new.calls) (g.met.C.PageCalls.occurred new.calls)));
      image = λ told. does.look.image;
      time = λ told. does.look.time;
      head = sym new.recorded ∙ does.look.recorded ∙ old.recorded;
      capacity = refl;
      reads_ok = λ told. does.look.answered;
      reads = λ told. (does.look.reads, does.page_reads, does.look.changes);
      faults = c.ensures.faults;
      cause = c.ensures.cause;
    }

pub swap_root-tells : goal.swap_root-tells
swap_root-tells g c =
    let old = c.args.self.now in
    let new = c.new.self.now in
    let does = asked_replace _ _ _ _ old.told new.told c.ensures.files (λ done. old.settled (calm_where_done old.is_stuck _ old.stuck done)) c.args.bytes.now c.requires.size c.result c.ensures.asks in
    record {
      swapped = λ told. does.done;
      either = λ told. does.either;
      time = λ told. does.time;
      head = sym new.recorded ∙ does.recorded ∙ old.recorded;
      capacity = refl;
      reads = λ told. does.reads;
      changes = λ told. does.changes;
      faults = c.ensures.faults;
      cause = c.ensures.cause;
    }

pub clear_root-tells : goal.clear_root-tells
clear_root-tells g c =
    let old = c.args.self.now in
    let new = c.new.self.now in
    let does = asked_clear _ _ _ _ old.told new.told c.ensures.files (λ done. old.settled (calm_where_done old.is_stuck _ old.stuck done)) c.result c.ensures.asks in
    record {
      cleared = λ told. does.done;
      either = λ told. does.either;
      time = λ told. does.time;
      head = sym new.recorded ∙ does.recorded ∙ old.recorded;
      capacity = refl;
      reads = λ told. does.reads;
      changes = λ told. does.changes;
      faults = c.ensures.faults;
      cause = c.ensures.cause;
    }
