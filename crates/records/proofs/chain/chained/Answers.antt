-- `chained` meets its contract: a test that fails rules a registry out, and the tests together make one. Assumes nothing.
use Rattle.std.proofs.Common.{arith}
use Rattle.trees.proofs.Deciding.{decides_no, decides_same, refuted, held}
use Rattle.records.proofs.Chains.{body_end, follow_first, first_follow, unused_behind, behind_unused}
use Rattle.records.proofs.chain.chained.Goals as goal

pub returns-then-not-follow : goal.returns-then-not-follow
returns-then-not-follow c = decides_no (λ C. refuted c.follow.ensures c.if-not-follow.true-raw (first_follow c.args.records.now C.lies.few C.lies.many C.lies.follow))

pub returns-then-not-unused : goal.returns-then-not-unused
returns-then-not-unused c = decides_no (λ C. refuted c.unused.ensures c.if-not-unused.true-raw (behind_unused c.args.records.now C.lies.few C.lies.many C.lies.unused))

pub body_of-requires : goal.body_of-requires
body_of-requires c = omega (arith, body_end (follow_first c.args.records.now (omega arith) (omega arith) (held c.follow.ensures c.if-not-follow.false-raw)) 0 (omega arith))

pub returns : goal.returns
returns c =
    let rs = c.args.records.now in
    decides_same
    (λ A. record {
      lies = record {
        many = omega arith;
        few = omega arith;
        follow = follow_first rs (omega arith) (omega arith) (held c.follow.ensures c.if-not-follow.false-raw);
        inside = omega arith;
        unused = unused_behind rs (omega arith) (omega arith) (held c.unused.ensures c.if-not-unused.false-raw);
        stock = rw c.body_of.ensures at A;
      };
      counts = held c.sound.ensures c.if-not-sound.false-raw;
    })
    (λ C. rw c.body_of.ensures C.lies.stock)
    c.alphabets_right.ensures
