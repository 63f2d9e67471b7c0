use Rattle.signature.proofs.Expanded.{vk-in, key-part-long, key-part-low, key-unfilled, key-expanded}
use Rattle.signature.proofs.keys.expand_found.Goals as goal

pub slice_bounds-bytes-count : goal.slice_bounds-bytes-count
slice_bounds-bytes-count c = vk-in c.args.row.p c.args.row.tabled c.args.key.now c.requires.key_len.0

pub invariant_of-part : goal.invariant_of-part
invariant_of-part c = record { sized = key-part-long c.args.row.p c.args.row.tabled c.args.key.now c.requires.key_len.0 }

pub returns-then-not-shares_fill : goal.returns-then-not-shares_fill
returns-then-not-shares_fill c =
    let b = c.args in
    let r = c.shares_fill in
    key-unfilled b.row.p b.key.now b.bytes_out.now b.words_out.now r.result r.ensures c.if-not-shares_fill.true

pub put_bytes-requires : goal.put_bytes-requires
put_bytes-requires c =
    record { bytes_held = vk-in c.args.row.p c.args.row.tabled c.args.key.now c.requires.key_len.0; out_len = c.requires.bytes_out_len.0 }

pub decompress_shares-requires : goal.decompress_shares-requires
decompress_shares-requires c =
    let b = c.args in
    record { out_len = (c.requires.bytes_out_len.1, key-part-low b.row.p c.args.row.tabled b.key.now c.requires.key_len.0 c.requires.key_len.1) }

pub returns : goal.returns
returns c =
    let b = c.args in
    let r = c.shares_fill in
    key-expanded b.row.p b.key.now b.bytes_out.now b.words_out.now r.result r.ensures c.if-not-shares_fill.false
    c.put_bytes.new.out c.decompress_shares.new.out c.put_bytes.ensures c.decompress_shares.ensures
