use Rattle.std.proofs.Common.{◌∙◌, sym, refl, arith}
use Rattle.su_session.proofs.Going.{none, some, goes-none, goes-then, goes-end, goes-further, goes-reading, end-closed, end-cut, end-unread, end-lost, end-spent}
use Rattle.su_session.proofs.Waiting.{partial_short}
use Rattle.su_session.proofs.talks.Talk.converse.Goals as goal

pub loop-init : goal.loop-init
loop-init g c = (c.requires, goes-none g.S.Service.answers _, omega arith)

pub returns-in-Some : goal.returns-in-Some
returns-in-Some g c = goes-end g.S.Service.answers _ _ _ _ c.loop.invariant.1 (c.in-Some.ensures.says _)

pub refill-requires-clause-few : goal.refill-requires-clause-few
refill-requires-clause-few g c = omega (arith, c.in_default.ensures.reads, c.loop.invariant.0, c.loop-test.true)

pub refill-requires-clause-partial : goal.refill-requires-clause-partial
refill-requires-clause-partial g c = partial_short _ (c.in_default.ensures.says (g.R.Read.remaining c.loop.reader)).1

pub returns-then-is_empty : goal.returns-then-is_empty
returns-then-is_empty g c =
    let ready = c.in_default.ensures.says (g.R.Read.remaining c.loop.reader) in
    let (read, end, (frames, answered, turn)) = c.in-Ended.ensures.bytes in
    goes-end g.S.Service.answers _ _ _ _ (goes-then g.S.Service.answers _ _ _ c.loop.invariant.1 ready.0) (end-closed g.S.Service.answers _ _ refl turn answered refl read end (sym frames ∙ sym c.waiting.ensures ∙ none c.waiting.result.now (sym c.is_empty.ensures ∙ c.if-is_empty.true)))

pub returns-in-Ended : goal.returns-in-Ended
returns-in-Ended g c =
    let ready = c.in_default.ensures.says (g.R.Read.remaining c.loop.reader) in
    let (read, end, (frames, answered, turn)) = c.in-Ended.ensures.bytes in
    goes-end g.S.Service.answers _ _ _ _ (goes-then g.S.Service.answers _ _ _ c.loop.invariant.1 ready.0) (end-cut g.S.Service.answers _ _ refl turn answered refl read end ready.1 (rw (← c.in-Ended.ensures.bytes.2.0) (rw (← c.waiting.ensures) (some c.waiting.result.now (sym c.is_empty.ensures ∙ c.if-is_empty.false)))))

pub returns-in-Failed : goal.returns-in-Failed
returns-in-Failed g c =
    let ready = c.in_default.ensures.says (g.R.Read.remaining c.loop.reader) in
    let (read, (frames, answered, turn)) = c.in-Failed.ensures.bytes in
    goes-end g.S.Service.answers _ _ _ _ (goes-then g.S.Service.answers _ _ _ c.loop.invariant.1 ready.0) (end-unread g.S.Service.answers _ _ refl turn answered refl read ready.1)

pub returns-in-Lost : goal.returns-in-Lost
returns-in-Lost g c =
    let ready = c.in_default.ensures.says (g.R.Read.remaining c.loop.reader) in
    let (piece, read, some, (frames, answered, turn)) = c.in-Lost.ensures.bytes in
    goes-end g.S.Service.answers _ _ _ _ (goes-then g.S.Service.answers _ _ _ c.loop.invariant.1 ready.0) (end-lost g.S.Service.answers _ _ piece refl turn answered refl read some)

pub loop-preserved : goal.loop-preserved
loop-preserved g c =
    let ready = c.in_default.ensures.says (g.R.Read.remaining c.loop.reader) in
    let (piece, read, some, (frames, answered, turn)) = c.in-More.ensures.bytes in
    let (before, came) = goes-further g.S.Service.answers _ _ _ c.loop.invariant.1 ready.0 in
    let (reading, more) = goes-reading g.S.Service.answers _ _ piece refl turn answered frames refl read in
    let (all, length_is) = goes-further g.S.Service.answers _ _ _ before reading in (
      omega (arith, c.in-More.ensures.reads, c.in_default.ensures.reads, c.loop.invariant.0),
      all,
      omega (arith, some, more, came, length_is, c.loop.invariant.2),
    )

pub returns-in-Some-answer_ready : goal.returns-in-Some-answer_ready
returns-in-Some-answer_ready g c = goes-end g.S.Service.answers _ _ _ _ c.loop.invariant.1 (c.in-Some-answer_ready.ensures.says _)

pub returns-in-None : goal.returns-in-None
returns-in-None g c =
    let ready = c.in-None.ensures.says (g.R.Read.remaining c.loop.reader) in
    let (all, came) = goes-further g.S.Service.answers _ _ _ c.loop.invariant.1 ready.0 in
    end-spent g.S.Service.answers _ _ all ready.1 (omega (arith, came, c.loop.invariant.2))
