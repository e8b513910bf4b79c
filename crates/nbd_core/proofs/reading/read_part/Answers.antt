use Rattle.std.proofs.Common.{Err, refl, ◌∙◌, sym, ap, length, ℕ, ◌+◌, ◌*◌, arith}
use Rattle.sdbt_base.specs.Arrays.{content_of}
use Rattle.byte_arrays.specs.Arrays.{bytes_at}
use Rattle.nbd_terms.specs.Bytes.{array_of}
use Rattle.byte_arrays.proofs.ArrayLaws.{length-bytes_at}
use Rattle.nbd_core.proofs.ArrayLaws.{reads_stopped, reads_whole}
use Rattle.session_calls.proofs.CallLaws.{calls_more, calls_of, no_draw}
use Rattle.nbd_core.proofs.MeetLaws.{read_stops}
use Rattle.nbd_core.proofs.FoundLaws.{finds_all, finds_part, reads_part, same_of_call}
use Rattle.nbd_core.proofs.reading.read_part.Goals as goal

pub returns-then-is_whole-clause-calls : goal.returns-then-is_whole-clause-calls
returns-then-is_whole-clause-calls g c drawn = calls_more g.P.Platform 0 0 _ 21 _ _ drawn drawn _ _ _ (omega arith) (omega (arith, c.requires.open.level)) (calls_of g.P.Platform 0 _ _ _ drawn drawn _ _ _ (c.read_block.ensures.goes drawn))

pub returns-in-Err-clause-calls : goal.returns-in-Err-clause-calls
returns-in-Err-clause-calls g c drawn = calls_more g.P.Platform 0 0 _ 21 _ _ drawn drawn _ _ _ (omega arith) (omega (arith, c.requires.open.level)) (calls_of g.P.Platform 0 _ _ _ drawn drawn _ _ _ (c.in-Err.ensures.goes drawn))

pub returns-clause-calls : goal.returns-clause-calls
returns-clause-calls g c drawn = calls_more g.P.Platform 0 0 _ 21 _ _ drawn drawn _ _ _ (omega arith) (omega (arith, c.requires.open.level)) (calls_of g.P.Platform 0 _ _ _ drawn drawn _ _ _ (c.in-Ok.ensures.goes drawn))

pub copy_from_slice-requires : goal.copy_from_slice-requires
copy_from_slice-requires g c = c.requires.size ∙ sym (length-bytes_at _ _ c.args.part.count) ∙ ap length (sym (c.bytes_of.ensures (λ n. c.read_block-2.new.out) refl))

pub returns-then-is_whole-clause-reads : goal.returns-then-is_whole-clause-reads
returns-then-is_whole-clause-reads g c told device array at =
    reads_whole _ _ device array c.args.part.block c.args.part.start c.args.part.count _ _ (c.read_block.auto.out ∙ c.requires.size) (c.if-is_whole.ensures.0 refl) c.args.part.inside (c.read_block.ensures.leads told device array at)

pub returns-in-Err-clause-reads : goal.returns-in-Err-clause-reads
returns-in-Err-clause-reads g c told device array at = reads_stopped _ _ device array c.args.part.block (4096 * c.args.part.block + c.args.part.start) c.read_block-2.new.out c.args.out.now c.in-Err.stop (c.in-Err.ensures.leads told device array at)

pub returns-clause-reads : goal.returns-clause-reads
returns-clause-reads g c told device array at =
    let led = c.in-Ok.ensures.leads told device array at in
    let place : ℕ = 4096 * c.args.part.block + c.args.part.start in
    let copied = c.copy_from_slice.ensures in
    (led.0, copied.after ∙ c.bytes_of.ensures (content_of array.contents) led.1 ∙ ap (bytes_at (array_of array) place) (sym (copied.len ∙ c.requires.size)))

pub returns-then-is_whole-clause-damage : goal.returns-then-is_whole-clause-damage
returns-then-is_whole-clause-damage g c told mounted =
    let counts = g.met.P.Platform.counts_pages told in
    let call = c.read_block.ensures in
    reads_part _ (g.P.Platform.history c.args.platform.now).present (g.P.Platform.history c.read_block.new.platform).present c.args.session.now c.read_block.new.session
    c.args.part.block (4096 * c.args.part.block + c.args.part.start) c.read_block.new.out c.read_block.new.out c.read_block.result call.any (told, mounted)
    (same_of_call g.P.Platform _ _ _ no_draw no_draw _ _ (counts c.args.platform.now) (counts c.read_block.new.platform) told (call.goes no_draw).along call.same.1)
    (λ finds. finds_all _ _ c.args.part.block c.args.part.start _ finds (c.read_block.auto.out ∙ c.requires.size ∙ c.if-is_whole.ensures.0 refl) (omega (arith, c.args.part.inside, c.if-is_whole.ensures.0 refl)))

pub returns-in-Err-clause-damage : goal.returns-in-Err-clause-damage
returns-in-Err-clause-damage g c told mounted =
    let counts = g.met.P.Platform.counts_pages told in
    let call = c.in-Err.ensures in
    record {
      same = same_of_call g.P.Platform _ _ _ no_draw no_draw _ _ (counts c.args.platform.now) (counts c.read_block-2.new.platform) told (call.goes no_draw).along call.same.1;
      found = tt;
      met = read_stops _ (g.P.Platform.history c.args.platform.now).present (g.P.Platform.history c.read_block-2.new.platform).present
          c.args.session.now c.args.part.block c.read_block-2.new.out (Err c.in-Err.stop) call.any (told, mounted);
    }

pub returns-clause-damage : goal.returns-clause-damage
returns-clause-damage g c told mounted =
    let counts = g.met.P.Platform.counts_pages told in
    let call = c.in-Ok.ensures in
    let part = c.args.part in
    record {
      same = same_of_call g.P.Platform _ _ _ no_draw no_draw _ _ (counts c.args.platform.now) (counts c.read_block-2.new.platform) told (call.goes no_draw).along call.same.1;
      found = finds_part _ _ part.block part.start part.count c.read_block-2.new.out _ (call.any (told, mounted)) (omega arith) part.inside
          (c.copy_from_slice.ensures.after ∙ c.bytes_of.ensures (λ n. c.read_block-2.new.out) refl);
      met = tt;
    }
