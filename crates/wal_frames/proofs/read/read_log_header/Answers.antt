use Rattle.std.proofs.Common.{sym, ◌∙◌, arith, length}
use Rattle.wal_frames.proofs.Fronts.{nothing_there, other_version, other_page_size, other_generation, ours_there}
use Rattle.wal_frames.specs.declared.header.Front.TheVariants.{Ours}
use Rattle.wal_frames.proofs.Opening.{legal_front, room_for}
use Rattle.wal_frames.proofs.read.read_log_header.Goals as goal

pub returns-then-not-is_signed-clause-front : goal.returns-then-not-is_signed-clause-front
returns-then-not-is_signed-clause-front c = nothing_there c.args.log c.args.bytes.now (sym c.is_signed.ensures.value ∙ c.if-not-is_signed.true)

pub returns-then-version-ne-OWN_VERSION-clause-front : goal.returns-then-version-ne-OWN_VERSION-clause-front
returns-then-version-ne-OWN_VERSION-clause-front c =
    let signed = sym c.is_signed.ensures.value ∙ c.if-not-is_signed.false in
    rw c.get_u32-version.ensures (other_version c.args.log c.args.bytes.now signed (λ same. omega arith))

pub returns-then-not-is_page_size-clause-front : goal.returns-then-not-is_page_size-clause-front
returns-then-not-is_page_size-clause-front c =
    let signed = sym c.is_signed.ensures.value ∙ c.if-not-is_signed.false in
    let fails = rw c.get_u32-page_size.ensures at (sym c.is_page_size.ensures ∙ c.if-not-is_page_size.true) in
    rw c.get_u32-version.ensures (other_page_size c.args.log c.args.bytes.now signed (omega arith) fails)

pub returns-then-not-is_generation-clause-front : goal.returns-then-not-is_generation-clause-front
returns-then-not-is_generation-clause-front c =
    let signed = sym c.is_signed.ensures.value ∙ c.if-not-is_signed.false in
    let size = rw c.get_u32-page_size.ensures at (sym c.is_page_size.ensures ∙ c.if-not-is_page_size.false) in
    let fails = rw c.get_u32-generation.ensures at (sym c.is_generation.ensures ∙ c.if-not-is_generation.true) in
    rw c.get_u32-version.ensures (other_generation c.args.log c.args.bytes.now signed (omega arith) size fails)

pub returns-clause-front : goal.returns-clause-front
returns-clause-front c =
    let signed = sym c.is_signed.ensures.value ∙ c.if-not-is_signed.false in
    let size = rw c.get_u32-page_size.ensures at (sym c.is_page_size.ensures ∙ c.if-not-is_page_size.false) in
    let generation = rw c.get_u32-generation.ensures at (sym c.is_generation.ensures ∙ c.if-not-is_generation.false) in
    rw c.header_in.ensures (sym (ours_there c.args.log c.args.bytes.now signed (omega arith) size generation))

pub returns-clause-legal : goal.returns-clause-legal
returns-clause-legal c = legal_front c.args.log c.args.bytes.now (Ours c.header_in.result) (returns-clause-front c)

pub returns-clause-room : goal.returns-clause-room
returns-clause-room c = room_for c.args.log c.args.bytes.now (length c.args.bytes.now) (omega arith) (Ours c.header_in.result) (returns-clause-front c)
