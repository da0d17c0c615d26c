use Rattle.std.proofs.Common.{◌≡◌, ◌≤◌, length, take, ap, arith}
use Rattle.med_folder.proofs.RoomLemmas.{first_kept, read_behind}
use Rattle.med_folder.proofs.pieces.read_up_to.Goals as goal

pub returns-clause-bytes : goal.returns-clause-bytes
returns-clause-bytes g c first before =
    let bytes = c.args.bytes.now.items in
    let now = c.as_mut_slice.result.now in
    let start = length c.as_slice-start.result.now in
    let filled = first_kept c.args.size bytes _ c.requires in
    let kept : take start now ≡ bytes =
    rw (c.as_mut_slice.ensures.value, c.in_ok-resize.ensures.items, c.as_slice-start.ensures.value)
    filled in
    let all : length now ≡ c.resize.new.self.len = omega (arith, c.as_mut_slice.ensures.len) in
    let begins : start ≡ length bytes = ap length c.as_slice-start.ensures.value in
    let is_size = c.in_ok-resize.ensures.len in
    let within : start ≤ length now = omega (arith, c.as_mut_slice.ensures.len) in
    rw c.truncate.ensures.items
    (read_behind first _ _ start _ _ _ bytes now c.fill.new.room _ c.fill.ensures.len all within kept
    c.in_ok-count.ensures.bound before c.in_ok-count.ensures.bytes)
