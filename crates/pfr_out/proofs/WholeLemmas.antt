-- The whole of a run: how far it came, and what it closed or why it stopped.
use Rattle.std.proofs.Common.{◌≡◌, ◌∙◌, ℕ, Bool, List, [], map, Option, Some, None, IfSome, Result, Err, IfErr, IfOk, refl, sym, subst}
use Rattle.std.specs.Option.{option_map}
use Rattle.std.proofs.lemmas.Result.{IfErr-weaker, IfOk-weaker}
use Rattle.pfr_merge.specs.MergeReading.{AllTold, HasMerged, MayFollowAll, header_in, joined}
use Rattle.pfr_commit.specs.declared.book.Book.{Book}
use Rattle.pfr_out.specs.declared.feeding.Cut.{Cut as Why}
use Rattle.pfr_out.specs.declared.feeding.Feeding.{Feeding}
use Rattle.pfr_feed.specs.declared.report.Report.{Report}
use Rattle.pfr_feed.specs.declared.report.Stop.{Stop}
use Rattle.pfr_out.specs.declared.sinks.Sinks.{Sinks}
use Rattle.pfr_out.specs.Feedings.{Behind, Breaks, Concluded, Finishes, RunEnds, RunStops, stop_by, stop_of}
use Rattle.pfr_out.specs.Outputs.{Grew, GrewBy, Outputs, each_of, headers_alone}
use Rattle.pfr_feed.specs.Captures.{End}
use Rattle.pfr_out.specs.Replay.{Replayed, Stopped, closing}
use Rattle.pfr_out.specs.Spelling.{Run}
use Rattle.pfr_out.specs.Taking.{IsPastHeader, Reaches, run_in}
use Rattle.pfr_out.proofs.RunLemmas.{conclude_is_past, concluded, concluded_stop, concludes_for, ok_and, same_run}

module _ {R S : Type 0} (tells : R → Bool) (unread : R → List ℕ) (failures : R → ℕ) (told : S → Bool) (written : S → List ℕ) (sink_failures : S → ℕ) (run : Run) (start : Feeding R S) where
  abbrev ReplaysFrom : Sinks S → Report → Type 0
  ReplaysFrom sinks' report = AllTold (map tells start.sources.now) → (reads : List (List ℕ)) (before : Outputs) → HasMerged start.merge.now reads [] → MayFollowAll start.merge.now (map unread start.sources.now)
      → Grew (each_of told start.sinks.now) before (each_of written start.sinks.now) (headers_alone (map header_in start.merge.now))
      → Replayed run (joined reads (map unread start.sources.now)) (each_of told start.sinks.now) before (each_of written sinks') report

  abbrev StopsFrom : List R → Sinks S → Stop → Type 0
  StopsFrom sources' sinks' s = AllTold (map tells start.sources.now) → (reads : List (List ℕ)) (before : Outputs) → HasMerged start.merge.now reads [] → MayFollowAll start.merge.now (map unread start.sources.now)
      → Grew (each_of told start.sinks.now) before (each_of written start.sinks.now) (headers_alone (map header_in start.merge.now))
      → Stopped run start.most (joined reads (map unread start.sources.now)) (map unread sources') (each_of told start.sinks.now) before (each_of written sinks') s

  finished_ok : (book : Book) (ran : Feeding R S) (sinks' : Sinks S) (result : Result Report Stop) (last : Book) (end : End) → run ≡ run_in book start.channel.now.form → ran.channel.now.form ≡ start.channel.now.form
      → each_of told ran.sinks.now ≡ each_of told start.sinks.now → last.job ≡ book.job
      → Behind tells unread told written start ran (λ texts lefts told before behind. Reaches (run_in book start.channel.now.form) start.most texts lefts told before behind last end)
      → Concluded told written sink_failures last ran.channel.now.form end ran.sinks.now sinks' result
      → IfOk result (ReplaysFrom sinks')
  finished_ok book ran sinks' result last end run_is form_same told_same job_is reaches_it c =
      ok_and result _ (ReplaysFrom sinks') _ (λ (report : Report) closed writes t reads before h may grew.
      concluded run start.most (joined reads (map unread start.sources.now)) (map unread ran.sources.now) (each_of told start.sinks.now) before (each_of written ran.sinks.now) (each_of written sinks') last ran.channel.now.form end report
      (same_run last book ran.channel.now.form start.channel.now.form job_is form_same ∙ sym run_is)
      (subst (λ (r : Run). Reaches r start.most (joined reads (map unread start.sources.now)) (map unread ran.sources.now) (each_of told start.sinks.now) before (each_of written ran.sinks.now) last end) (sym run_is) (reaches_it t reads before h may grew))
      closed.0 closed.1
      (λ world stands. subst (λ (tl : Sinks Bool). Grew tl (each_of written ran.sinks.now) (each_of written sinks') (closing (run_in last ran.channel.now.form) world)) told_same (writes world stands)))
      c.closed c.grew

  -- how a run is closed that wasn't cut
  concluded_of : (book : Book) (ran : Feeding R S) (last : Option Book) (sinks' : Sinks S) (result : Result Report Stop) (e : RunEnds tells unread failures told written sink_failures book start ran last)
      → ran.cut ≡ None → Finishes told written sink_failures ran last sinks' result → Concluded told written sink_failures e.last ran.channel.now.form e.end ran.sinks.now sinks' result
  concluded_of book ran last sinks' result e is concludes_it =
      subst (λ (x : Option End). IfSome x (λ end. Concluded told written sink_failures e.last ran.channel.now.form end ran.sinks.now sinks' result)) e.end_is
      (subst (λ (x : Option Book). IfSome x (λ b. IfSome ran.end (λ end. Concluded told written sink_failures b ran.channel.now.form end ran.sinks.now sinks' result))) e.last_is (concludes_it is))

  finishes_ok : (book : Book) (ran : Feeding R S) (last : Option Book) (sinks' : Sinks S) (result : Result Report Stop) → run ≡ run_in book start.channel.now.form → ran.channel.now.form ≡ start.channel.now.form
      → each_of told ran.sinks.now ≡ each_of told start.sinks.now
      → (ran.cut ≡ None → RunEnds tells unread failures told written sink_failures book start ran last)
      → Breaks ran sinks' result
      → Finishes told written sink_failures ran last sinks' result
      → IfOk result (ReplaysFrom sinks')
  finishes_ok book ran last sinks' result run_is form_same told_same ends_it stopped concludes_it = by_cut ran.cut refl
    where
      by_cut : (o : Option Why) → ran.cut ≡ o → IfOk result (ReplaysFrom sinks')
      by_cut None is =
          let e = ends_it is in
          let c = concluded_of book ran last sinks' result e is concludes_it in
          finished_ok book ran sinks' result e.last e.end run_is form_same told_same e.job e.reaches c
      by_cut (Some why) is =
          let s = subst (λ (o : Option Why). IfSome (option_map (stop_by ran.committed) o) (λ stop. (result ≡ Err stop) × (sinks' ≡ ran.sinks.now))) is stopped in
          subst (λ (r : Result Report Stop). IfOk r (ReplaysFrom sinks')) (sym s.0) tt

  finished_stopped : (book : Book) (ran : Feeding R S) (sinks' : Sinks S) (result : Result Report Stop) (last : Book) (end : End) → run ≡ run_in book start.channel.now.form → ran.channel.now.form ≡ start.channel.now.form
      → each_of told ran.sinks.now ≡ each_of told start.sinks.now → last.job ≡ book.job
      → Behind tells unread told written start ran (λ texts lefts told before behind. Reaches (run_in book start.channel.now.form) start.most texts lefts told before behind last end)
      → Concluded told written sink_failures last ran.channel.now.form end ran.sinks.now sinks' result
      → IfErr result (StopsFrom ran.sources.now sinks')
  finished_stopped book ran sinks' result last end run_is form_same told_same job_is reaches_it c =
      IfErr-weaker result _ (StopsFrom ran.sources.now sinks') (λ (s : Stop) stops t reads before h may grew.
      concluded_stop run start.most (joined reads (map unread start.sources.now)) (map unread ran.sources.now) (each_of told start.sinks.now) before (each_of written ran.sinks.now) (each_of written sinks') last ran.channel.now.form end s
      (same_run last book ran.channel.now.form start.channel.now.form job_is form_same ∙ sym run_is)
      (subst (λ (r : Run). Reaches r start.most (joined reads (map unread start.sources.now)) (map unread ran.sources.now) (each_of told start.sinks.now) before (each_of written ran.sinks.now) last end) (sym run_is) (reaches_it t reads before h may grew))
      (concludes_for end last ran.channel.now.form _ _ _ _ s told_same stops))
      c.stops

  finishes_stopped : (book : Book) (ran : Feeding R S) (last : Option Book) (sinks' : Sinks S) (result : Result Report Stop) → run ≡ run_in book start.channel.now.form → ran.channel.now.form ≡ start.channel.now.form
      → each_of told ran.sinks.now ≡ each_of told start.sinks.now
      → (ran.cut ≡ None → RunEnds tells unread failures told written sink_failures book start ran last)
      → IfSome (stop_of ran) (λ why. RunStops tells unread failures told written sink_failures book start ran why)
      → Breaks ran sinks' result
      → Finishes told written sink_failures ran last sinks' result
      → IfErr result (StopsFrom ran.sources.now sinks')
  finishes_stopped book ran last sinks' result run_is form_same told_same ends_it stops_it stopped concludes_it = by_cut ran.cut refl
    where
      by_cut : (o : Option Why) → ran.cut ≡ o → IfErr result (StopsFrom ran.sources.now sinks')
      by_cut None is =
          let e = ends_it is in
          let c = concluded_of book ran last sinks' result e is concludes_it in
          finished_stopped book ran sinks' result e.last e.end run_is form_same told_same e.job e.reaches c
      by_cut (Some why) is =
          let s = subst (λ (o : Option Why). IfSome (option_map (stop_by ran.committed) o) (λ stop. (result ≡ Err stop) × (sinks' ≡ ran.sinks.now))) is stopped in
          let r = subst (λ (o : Option Why). IfSome (option_map (stop_by ran.committed) o) (λ stop. RunStops tells unread failures told written sink_failures book start ran stop)) is stops_it in
          subst (λ (x : Result Report Stop). IfErr x (StopsFrom ran.sources.now sinks')) (sym s.0)
          (λ t reads before h may grew. rw s.1 (subst (λ (u : Run). Stopped u start.most (joined reads (map unread start.sources.now)) (map unread ran.sources.now) (each_of told start.sinks.now) before (each_of written ran.sinks.now) (stop_by ran.committed why)) (sym run_is) (r.stopped t reads before h may grew)))

  -- a stop refuses no header
  pub stops_past : (book : Book) (ran : Feeding R S) (last : Option Book) (sinks' : Sinks S) (result : Result Report Stop)
      → (ran.cut ≡ None → RunEnds tells unread failures told written sink_failures book start ran last)
      → IfSome (stop_of ran) (λ why. RunStops tells unread failures told written sink_failures book start ran why)
      → Breaks ran sinks' result
      → Finishes told written sink_failures ran last sinks' result
      → IfErr result (λ s. IsPastHeader s)
  stops_past book ran last sinks' result ends_it stops_it stopped concludes_it = by_cut ran.cut refl
    where
      by_cut : (o : Option Why) → ran.cut ≡ o → IfErr result (λ s. IsPastHeader s)
      by_cut None is =
          let e = ends_it is in
          let c = concluded_of book ran last sinks' result e is concludes_it in
          IfErr-weaker result _ (λ s. IsPastHeader s) (λ (s : Stop) fails. conclude_is_past e.end e.last.count (map failures start.sources.now) (map failures ran.sources.now) _ _ s e.failed fails) c.failure
      by_cut (Some why) is =
          let s = subst (λ (o : Option Why). IfSome (option_map (stop_by ran.committed) o) (λ stop. (result ≡ Err stop) × (sinks' ≡ ran.sinks.now))) is stopped in
          let r = subst (λ (o : Option Why). IfSome (option_map (stop_by ran.committed) o) (λ stop. RunStops tells unread failures told written sink_failures book start ran stop)) is stops_it in
          subst (λ (x : Result Report Stop). IfErr x (λ s. IsPastHeader s)) (sym s.0) r.late

  -- the same from before the header was written
  abbrev ReplaysHence : (sinks sinks' : Sinks S) → Report → Type 0
  ReplaysHence sinks sinks' report = AllTold (map tells start.sources.now) → (reads : List (List ℕ)) → HasMerged start.merge.now reads [] → MayFollowAll start.merge.now (map unread start.sources.now)
      → Replayed run (joined reads (map unread start.sources.now)) (each_of told sinks) (each_of written sinks) (each_of written sinks') report

  abbrev StopsHence : List R → (sinks sinks' : Sinks S) → Stop → Type 0
  StopsHence sources' sinks sinks' s = AllTold (map tells start.sources.now) → (reads : List (List ℕ)) → HasMerged start.merge.now reads [] → MayFollowAll start.merge.now (map unread start.sources.now)
      → Stopped run start.most (joined reads (map unread start.sources.now)) (map unread sources') (each_of told sinks) (each_of written sinks) (each_of written sinks') s

  pub replays_on : (book : Book) (ran : Feeding R S) (last : Option Book) (sinks sinks' : Sinks S) (result : Result Report Stop)
      → (ran.cut ≡ None → RunEnds tells unread failures told written sink_failures book start ran last)
      → Breaks ran sinks' result
      → Finishes told written sink_failures ran last sinks' result
      → ran.channel.now.form ≡ start.channel.now.form → each_of told ran.sinks.now ≡ each_of told start.sinks.now → run ≡ run_in book start.channel.now.form
      → each_of told start.sinks.now ≡ each_of told sinks → GrewBy told written sinks start.sinks.now (headers_alone (map header_in start.merge.now))
      → IfOk result (ReplaysHence sinks sinks')
  replays_on book ran last sinks sinks' result ends_it stopped concludes_it form_same told_same run_is told_is header =
      IfOk-weaker result (ReplaysFrom sinks') (ReplaysHence sinks sinks') (λ (report : Report) p t reads h may.
      subst (λ (tl : Sinks Bool). Replayed run (joined reads (map unread start.sources.now)) tl (each_of written sinks) (each_of written sinks') report) told_is
      (p t reads (each_of written sinks) h may (subst (λ (tl : Sinks Bool). Grew tl (each_of written sinks) (each_of written start.sinks.now) (headers_alone (map header_in start.merge.now))) (sym told_is) header)))
      (finishes_ok book ran last sinks' result run_is form_same told_same ends_it stopped concludes_it)

  pub stops_on : (book : Book) (ran : Feeding R S) (last : Option Book) (sources' : List R) (sinks sinks' : Sinks S) (result : Result Report Stop)
      → (ran.cut ≡ None → RunEnds tells unread failures told written sink_failures book start ran last)
      → IfSome (stop_of ran) (λ why. RunStops tells unread failures told written sink_failures book start ran why)
      → Breaks ran sinks' result
      → Finishes told written sink_failures ran last sinks' result
      → sources' ≡ ran.sources.now
      → ran.channel.now.form ≡ start.channel.now.form → each_of told ran.sinks.now ≡ each_of told start.sinks.now → run ≡ run_in book start.channel.now.form
      → each_of told start.sinks.now ≡ each_of told sinks → GrewBy told written sinks start.sinks.now (headers_alone (map header_in start.merge.now))
      → IfErr result (StopsHence sources' sinks sinks')
  stops_on book ran last sources' sinks sinks' result ends_it stops_it stopped concludes_it sources_are form_same told_same run_is told_is header =
      IfErr-weaker result (StopsFrom ran.sources.now sinks') (StopsHence sources' sinks sinks') (λ (s : Stop) p t reads h may.
      rw sources_are
      (subst (λ (tl : Sinks Bool). Stopped run start.most (joined reads (map unread start.sources.now)) (map unread ran.sources.now) tl (each_of written sinks) (each_of written sinks') s) told_is
      (p t reads (each_of written sinks) h may (subst (λ (tl : Sinks Bool). Grew tl (each_of written sinks) (each_of written start.sinks.now) (headers_alone (map header_in start.merge.now))) (sym told_is) header))))
      (finishes_stopped book ran last sinks' result run_is form_same told_same ends_it stops_it stopped concludes_it)
