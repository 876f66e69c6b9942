use Rattle.std.proofs.Common.{rules}
use Rattle.vod_base.proofs.LinkLogLemmas.{sent_more}
use Rattle.vod_base.proofs.memory_links.MemoryLinkLink.send.Goals as goal

pub invariant_of-self-2 : goal.invariant_of-self-2
invariant_of-self-2 c =
    let more = sent_more c.self.inside.events.items c.self.inside.notes.items c.log_sent.new.notes.items
    c.args.bytes.now c.log_sent.ensures.items in
    search (rules, more)

pub returns-clause-whole : goal.returns-clause-whole
returns-clause-whole c =
    let more = sent_more c.self.inside.events.items c.self.inside.notes.items c.log_sent.new.notes.items
    c.args.bytes.now c.log_sent.ensures.items in
    search (rules, more)
