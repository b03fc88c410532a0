use Rattle.std.proofs.Common.{◌≡◌, ◌-◌, ◌*◌, ◌≤◌, ◌++◌, take, length}
use Rattle.laying.specs.Order.{in_order, page_numbers}
use Rattle.store.specs.Committing.{bytes_of}
use Rattle.store.proofs.halt.keep_pages.Given as goal

abbrev pub invariant-kept : goal.invariant-kept
invariant-kept l = record {
  within : l.next ≤ length l.order;
  pages : l.spare.pages ≡ l.initial.spare.pages ++ page_numbers (in_order l.changed (take l.next l.order));
  bytes : l.spare.bytes ≡ l.initial.spare.bytes ++ bytes_of (in_order l.changed (take l.next l.order));
  page_room : length l.order - l.next ≤ l.spare.page_room;
  byte_room : (length l.order - l.next) * l.size ≤ l.spare.byte_room;
}

abbrev pub decreases-kept : goal.decreases-kept
decreases-kept l = length l.order - l.next
