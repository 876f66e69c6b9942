use Rattle.std.proofs.Common.{take, arith}
use Rattle.std.proofs.lemmas.List.{length-take-le}
use Rattle.film_frames.specs.FramedRuns.{pieces_in}
use Rattle.film_frames.proofs.RunBytesLemmas.{frames-le, octets-are}
use Rattle.film_frames.proofs.frames.Frames.octets_before_piece.Goals as goal

pub overflow_sub-reports : goal.overflow_sub-reports
overflow_sub-reports c =
    let all = pieces_in c.args.self.now in
    let counted = c.frames_before_piece-frames.ensures in
    omega (arith, counted, frames-le (take c.args.piece all), length-take-le c.args.piece all c.requires)

pub overflow_mul-result : goal.overflow_mul-result
overflow_mul-result c =
    let pieces = take c.args.piece (pieces_in c.args.self.now) in
    let counted = c.frames_before_piece-frames.ensures in
    let begin = c.begin_of.ensures.wire in
    omega (arith, counted, begin, c.begin_of.type_inv, octets-are pieces, frames-le pieces)

pub overflow_sub-result : goal.overflow_sub-result
overflow_sub-result c =
    let pieces = take c.args.piece (pieces_in c.args.self.now) in
    let counted = c.frames_before_piece-frames.ensures in
    omega (arith, counted, c.begin_of.ensures.wire, octets-are pieces, frames-le pieces)

pub overflow_mul-result-2 : goal.overflow_mul-result-2
overflow_mul-result-2 c =
    let all = pieces_in c.args.self.now in
    let pieces = take c.args.piece all in
    let counted = c.frames_before_piece-frames.ensures in
    let begin = c.begin_of.ensures.wire in
    let short = length-take-le c.args.piece all c.requires in
    omega (arith, counted, begin, c.begin_of.type_inv, octets-are pieces, frames-le pieces, short)

pub overflow_sub-result-2 : goal.overflow_sub-result-2
overflow_sub-result-2 c =
    let all = pieces_in c.args.self.now in
    let pieces = take c.args.piece all in
    let counted = c.frames_before_piece-frames.ensures in
    let short = length-take-le c.args.piece all c.requires in
    omega (arith, counted, c.begin_of.ensures.wire, octets-are pieces, frames-le pieces, short)

pub returns : goal.returns
returns c =
    let all = pieces_in c.args.self.now in
    let pieces = take c.args.piece all in
    let counted = c.frames_before_piece-frames.ensures in
    let short = length-take-le c.args.piece all c.requires in
    omega (arith, counted, c.begin_of.ensures.wire, octets-are pieces, frames-le pieces, short)
