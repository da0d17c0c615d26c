use Rattle.std.proofs.Common.{◌∙◌, ◌<◌, ◌≤◌, length, arith, sym}
use Rattle.med_outside.specs.Pages.{page_size}
use Rattle.med_mem.proofs.PageLemmas.{first_next, first_other, first_full}
use Rattle.med_mem.proofs.page.list_first.Goals as goal
use Rattle.med_mem.proofs.page.list_first.Goals.{then-len-lt-PAGE_SIZE+then-is_listed+in_ok-new_entry+in_ok-push, else-len-lt-PAGE_SIZE, else-len-lt-PAGE_SIZE-via-then-len-lt-PAGE_SIZE+else-is_listed, else-len-lt-PAGE_SIZE-via-else-len-lt-PAGE_SIZE}

pub loop-object-preserved : goal.loop-object-preserved
loop-object-preserved c =
    let text = c.args.under.now in
    let os = c.args.objects.now in
    let i = c.loop-object.object-index in
    let o = c.object-item.result in
    let lt = c.loop-object-test.true in
    let held = c.loop-object.invariant in
    let xs = c.loop-object.entries.items in
    elim c.if-len-lt-PAGE_SIZE.branch [
      | then-len-lt-PAGE_SIZE+then-is_listed+in_ok-new_entry+in_ok-push w ↦
          let short : length xs < page_size =
          omega (arith, c.len.ensures, w.if-len-lt-PAGE_SIZE.true) in
          let is = sym w.is_listed.ensures ∙ w.if-is_listed.true in
          rw (w.entries-is, w.in_ok-push.ensures.items, w.in_ok-new_entry.ensures)
          (first_next text os i o lt c.object-item.is xs held short is)
      | else-len-lt-PAGE_SIZE w ↦
          elim w.else-len-lt-PAGE_SIZE.branch [
            | else-len-lt-PAGE_SIZE-via-then-len-lt-PAGE_SIZE+else-is_listed v ↦
                let is = sym v.is_listed.ensures ∙ v.if-is_listed.false in
                rw (w.entries-is) (first_other text os i o lt c.object-item.is xs held is)
            | else-len-lt-PAGE_SIZE-via-else-len-lt-PAGE_SIZE v ↦
                let full : page_size ≤ length xs =
                omega (arith, c.len.ensures, v.if-len-lt-PAGE_SIZE.false) in
                rw (w.entries-is) (first_full text os i o lt c.object-item.is xs held full)
          ]
    ]
