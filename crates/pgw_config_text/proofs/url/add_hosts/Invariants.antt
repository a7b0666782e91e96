use Rattle.std.proofs.Common.{◌≡◌, map, take, fold}
use Rattle.pgw_config_text.specs.Part.{adds}
use Rattle.pgw_config_text.specs.Url.{host_in}
use Rattle.pgw_config_text.proofs.url.add_hosts.Given as goal

abbrev pub invariant-loop-host : goal.invariant-loop-host
invariant-loop-host l =
    l.cut ≡ fold (λ cut text. adds cut (host_in text)) l.fn.cut
    (map (λ piece. piece.now) (take l.host-index l.host-items))
