use Rattle.std.proofs.Common.{rules, ◌≡◌, length}
use Rattle.log_pair.proofs.NewHeaders.{header_is}
use Rattle.log_pair.proofs.header.NewHeader.sign.Goals as goal

pub returns-clause-signed : goal.returns-clause-signed
returns-clause-signed c log size generation =
    let long : length c.write_log_header-bytes.result ≡ 32 = search rules in
    header_is log c.write_log_header-bytes.result c.args.header.now c.get_u32.result c.get_u32-2.result c.requires long c.write_log_header-bytes.ensures.signed c.write_log_header-bytes.ensures.told
    (c.write_log_header-bytes.ensures.ours log size generation) c.get_u32.ensures c.get_u32-2.ensures
